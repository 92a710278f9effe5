use Rattle.residual_ledger.proofs.TightLaws.{tight-first}
use Rattle.residual_ledger.proofs.laws.tight_begins_with_the_first.Goals as goal

pub returns : goal.returns
returns c = tight-first
