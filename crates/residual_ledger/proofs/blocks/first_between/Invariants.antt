use Rattle.std.proofs.Common.{ℕ, suc, ◌<◌, ◌≤◌, get_or}
use Rattle.residual_ledger.proofs.blocks.first_between.Given as goal

abbrev pub invariant-loop-place : goal.invariant-loop-place
invariant-loop-place l = (k : ℕ) → l.from ≤ k → k < l.place → suc l.most ≤ get_or l.numbers k 0
