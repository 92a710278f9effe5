use Rattle.residual_ledger.specs.Holding.{HoldsFirst}
use Rattle.residual_ledger.proofs.holding.put_sets.Given as goal

abbrev pub invariant-loop-place : goal.invariant-loop-place
invariant-loop-place l = HoldsFirst l.cuts l.place l.ends l.rows
