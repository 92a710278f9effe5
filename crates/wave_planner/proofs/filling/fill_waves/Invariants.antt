use Rattle.std.proofs.Common.{◌≡◌, length}
use Rattle.wave_planner.proofs.StepLemmas.{AreBegun}
use Rattle.wave_planner.proofs.filling.fill_waves.Given as goal

abbrev pub invariant-loop-alloc : goal.invariant-loop-alloc
invariant-loop-alloc l = record {
  same : l.ledger ≡ l.initial.ledger;
  begun : AreBegun l.initial.ledger.units l.initial.ledger.cuts l.margin l.wanted l.left.items l.waves;
}

abbrev pub decreases-loop-alloc : goal.decreases-loop-alloc
decreases-loop-alloc l = length l.left.items
