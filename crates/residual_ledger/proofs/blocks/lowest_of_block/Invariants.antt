use Rattle.residual_ledger.proofs.BlockLemmas.{IsLowestSoFar}
use Rattle.residual_ledger.proofs.blocks.lowest_of_block.Given as goal

abbrev pub invariant-loop-place : goal.invariant-loop-place
invariant-loop-place l = IsLowestSoFar l.counts l.from l.end l.place l.lowest
