use Rattle.std.proofs.Common.{arith}
use Rattle.residual_ledger.proofs.LedgerFacts.{few_cuts}
use Rattle.residual_ledger.proofs.holding.put_sets.Goals as goal

pub overflow_cast-sets : goal.overflow_cast-sets
overflow_cast-sets c = omega (arith, few_cuts c.args.cuts.now, c.len-sets.ensures.ordered.within)
