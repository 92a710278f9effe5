use Rattle.std.proofs.Common.{◌≡◌, ◌<◌, false, length, ◌∙◌, sym, arith}
use Rattle.std.proofs.{lemmas.Bool.Decides.nat_tests, lemmas.List.get_or_read}
use Rattle.cut_sequences.specs.Orders.{is_listed}
use Rattle.cut_sequences.proofs.HoldingLemmas.{held_count, list_stands, past_listed}
use Rattle.cut_sequences.proofs.share.Share.listed.Goals as goal

pub returns-then-i-len : goal.returns-then-i-len
returns-then-i-len c =
    let count = held_count c.self.invariant c.self.view_is in
    let short : c.args.i < length c.self.inside.listed.items = omega arith in
    let here = list_stands c.args.i c.self.invariant c.self.view_is (omega (arith, count, short)) in
    get_or_read c.self.inside.listed.items c.args.i c.index.result.now short c.index.ensures false ∙ sym here.mark

pub returns-else-i-len : goal.returns-else-i-len
returns-else-i-len c =
    let count = held_count c.self.invariant c.self.view_is in
    let past : is_listed c.args.self.now c.args.i ≡ false = past_listed c.args.self.now c.args.i (omega arith) in
    grind (arith, nat_tests)
