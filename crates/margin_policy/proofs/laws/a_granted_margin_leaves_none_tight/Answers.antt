use Rattle.margin_policy.proofs.DecideLaws.{margin_leaves_none_tight}
use Rattle.margin_policy.proofs.laws.a_granted_margin_leaves_none_tight.Goals as goal

pub returns : goal.returns
returns c = margin_leaves_none_tight
