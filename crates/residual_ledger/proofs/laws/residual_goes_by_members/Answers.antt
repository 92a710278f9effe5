use Rattle.residual_ledger.proofs.ResidualFacts.{residual-alike}
use Rattle.residual_ledger.proofs.laws.residual_goes_by_members.Goals as goal

pub returns : goal.returns
returns c = residual-alike
