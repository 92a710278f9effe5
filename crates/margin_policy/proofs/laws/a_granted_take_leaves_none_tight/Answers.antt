use Rattle.margin_policy.proofs.DecideLaws.{take_leaves_none_tight}
use Rattle.margin_policy.proofs.laws.a_granted_take_leaves_none_tight.Goals as goal

pub returns : goal.returns
returns c = take_leaves_none_tight
