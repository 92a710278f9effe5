use Rattle.residual_ledger.specs.Kept.{HasLowestOutside}
use Rattle.residual_ledger.proofs.blocks.Blocks.refresh_between.Given as goal

abbrev pub invariant-loop-block : goal.invariant-loop-block
invariant-loop-block l = HasLowestOutside l.block l.end l.counts l.self.least.items l.self.lowest.items
