use Rattle.residual_ledger.proofs.BlockLemmas.{HasFirstLowest}
use Rattle.residual_ledger.proofs.blocks.Blocks.new.Given as goal

abbrev pub invariant-loop-block : goal.invariant-loop-block
invariant-loop-block l = HasFirstLowest l.counts l.least.items l.lowest.items l.block
