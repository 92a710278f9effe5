use Rattle.residual_ledger.proofs.BlockLemmas.{IsLowering}
use Rattle.residual_ledger.proofs.counts.lower.Given as goal

abbrev pub invariant-loop-place : goal.invariant-loop-place
invariant-loop-place l =
    IsLowering l.row l.initial.counts l.counts l.blocks.least.items l.blocks.lowest.items l.place-index
