use Rattle.std.proofs.Common.{take}
use Rattle.wave_planner.specs.Ends.{AreFreeAlone}
use Rattle.wave_planner.proofs.planning.first_stuck.Given as goal

abbrev pub invariant-loop-unit : goal.invariant-loop-unit
invariant-loop-unit l = AreFreeAlone l.ledger.cuts l.margin (take l.unit-index l.wanted)
