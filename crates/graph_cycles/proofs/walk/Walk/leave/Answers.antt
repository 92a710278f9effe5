use Rattle.std.proofs.{Common.arith, lemmas.Result.on_ok_weaker}
use Rattle.graph_cycles.specs.Walk.{IsTop}
use Rattle.graph_cycles.proofs.Progress.{Steps-closed}
use Rattle.graph_cycles.proofs.walk.Walk.leave.Goals as goal

pub returns-then-ends_with : goal.returns-then-ends_with
returns-then-ends_with c =
    let root : IsTop c.args.self.now.pieces.items c.args.at =
    grind (arith, c.ends_with.ensures, c.if-ends_with.true, c.deref.ensures.value) in
    on_ok_weaker c.close.result (Steps-closed c.args.graph.now c.close.new.self c.requires.stands
    c.requires.top c.requires.full root)
    c.close.ensures
