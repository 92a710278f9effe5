use Rattle.std.proofs.Common.{◌≡◌, drop}
use Rattle.wave_planner.specs.Filling.{is_free}
use Rattle.wave_planner.proofs.StepLemmas.{IsParting}
use Rattle.wave_planner.proofs.filling.part.Given as goal

abbrev pub invariant-loop-unit : goal.invariant-loop-unit
invariant-loop-unit l = record {
  same : l.ledger ≡ record l.initial.ledger { out = l.ledger.out };
  parts : IsParting (is_free l.initial.ledger.cuts l.margin) l.left (drop l.unit-index l.left) l.ledger.out l.wave.items
      l.rest.items;
}
