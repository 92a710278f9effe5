use Rattle.std.proofs.Common.{◌≡◌, [], take}
use Rattle.residual_ledger.specs.Kept.{residuals}
use Rattle.residual_ledger.proofs.counts.sizes.Given as goal

abbrev pub invariant-loop-place : goal.invariant-loop-place
invariant-loop-place l = l.counts.items ≡ residuals [] (take l.place l.cuts)
