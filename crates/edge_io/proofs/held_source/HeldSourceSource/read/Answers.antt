use Rattle.std.proofs.Common.{◌≡◌, length, take, drop, arith}
use Rattle.std.proofs.lemmas.Grind.{common_steps}
use Rattle.edge_io.proofs.ListLemmas.{filled-front}
use Rattle.edge_io.proofs.held_source.HeldSourceSource.read.Goals as goal

pub returns-clause-next : goal.returns-clause-next
returns-clause-next c =
    let n = c.min-count.result in
    let copied : c.copy_from_slice.new.self ≡ take n (drop c.self.inside.at c.self.inside.bytes) =
    grind (arith, common_steps) in
    let count : length c.copy_from_slice.new.self ≡ n = grind (arith, common_steps) in
    rw (← c.self.view_is) (filled-front c.self.inside.bytes c.args.into.now c.self.inside.at copied count)
