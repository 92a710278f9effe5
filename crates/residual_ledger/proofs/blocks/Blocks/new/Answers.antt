use Rattle.residual_ledger.proofs.BlockLemmas.{first_lowest-more}
use Rattle.residual_ledger.proofs.blocks.Blocks.new.Goals as goal

pub loop-block-preserved : goal.loop-block-preserved
loop-block-preserved c =
    rw (c.in_ok-push.ensures.items, c.in_ok-push-2.ensures.items) (first_lowest-more
    c.lowest_of_block-place.ensures c.loop-block.invariant)
