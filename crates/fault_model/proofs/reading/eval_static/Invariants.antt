use Rattle.std.proofs.Common.{◌≡◌, suc, length}
use Rattle.fault_definitions.specs.Tree.{node_count}
use Rattle.fault_model.proofs.EvalLemmas.{HasRead}
use Rattle.fault_model.proofs.reading.eval_static.Given as goal

abbrev pub invariant-loop-each : goal.invariant-loop-each
invariant-loop-each l = record {
  room : length l.scratch-inside.values.items ≡ suc (node_count l.tree);
  read : HasRead l.tree l.set l.each-items l.scratch-inside.values.items l.each-index;
}
