use Rattle.std.proofs.Common.{◌≡◌, drop}
use Rattle.wave_planner.proofs.StepLemmas.{IsReturning}
use Rattle.wave_planner.proofs.filling.put_back.Given as goal

abbrev pub invariant-loop-unit : goal.invariant-loop-unit
invariant-loop-unit l = record {
  same : l.ledger ≡ record l.initial.ledger { out = l.ledger.out };
  rest : IsReturning (drop l.unit-index l.wave) l.ledger.out;
}
