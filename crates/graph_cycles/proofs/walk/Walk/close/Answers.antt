use Rattle.std.proofs.{Common.arith, Common.sym, lemmas.Grind.common_steps, lemmas.List.with_items_is}
use Rattle.graph_cycles.proofs.Seal.{Closes-as}
use Rattle.graph_cycles.proofs.walk.Walk.close.Goals as goal

pub returns : goal.returns
returns c = record {
  sealed =
      Closes-as (grind (arith, common_steps)) (sym c.piece_cycles-cycles.ensures) (grind (arith, common_steps))
      (with_items_is c.rank.new.self.stages c.seal.new.stages (grind (arith, common_steps)))
      (grind (arith, common_steps))
      (with_items_is c.rank.new.self.on_cycle c.seal.new.marks (grind (arith, common_steps)))
      c.seal.ensures;
  explored = grind (arith, common_steps);
  unclosed = grind (arith, common_steps);
  pieces = grind (arith, common_steps);
  path = grind (arith, common_steps);
  closed = grind (arith, common_steps);
  ranked = λ cycles. grind (arith, common_steps);
  unranked = λ cycles. grind (arith, common_steps);
}

pub seal-requires-clause-stages : goal.seal-requires-clause-stages
seal-requires-clause-stages c = grind (arith, common_steps)

pub seal-requires-clause-marks : goal.seal-requires-clause-marks
seal-requires-clause-marks c = grind (arith, common_steps)
