use Rattle.residual_ledger.proofs.FillingLemmas.{IsCountingFor}
use Rattle.residual_ledger.proofs.holding.count_sets.Given as goal

abbrev pub invariant-loop-place : goal.invariant-loop-place
invariant-loop-place l = IsCountingFor l.units l.cuts l.place l.sizes.items
