use Rattle.std.proofs.Common.{All}
use Rattle.fault_definitions.specs.Tree.{IsUnitOf}
use Rattle.model_tests.proofs.replay_semantics_tests.order_of.Given as goal

abbrev pub invariant-loop-digit : goal.invariant-loop-digit
invariant-loop-digit l = All (IsUnitOf l.tree) l.units.items
