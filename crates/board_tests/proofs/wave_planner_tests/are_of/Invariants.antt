use Rattle.std.proofs.Common.{All, take}
use Rattle.fault_definitions.specs.Tree.{IsUnitOf}
use Rattle.board_tests.proofs.wave_planner_tests.are_of.Given as goal

abbrev pub invariant-loop-unit : goal.invariant-loop-unit
invariant-loop-unit l = All (IsUnitOf l.tree) (take l.unit-index l.units)
