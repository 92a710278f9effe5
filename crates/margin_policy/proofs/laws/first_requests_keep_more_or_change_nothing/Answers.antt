use Rattle.margin_policy.proofs.GuardLemmas.{first_kept}
use Rattle.margin_policy.proofs.laws.first_requests_keep_more_or_change_nothing.Goals as goal

pub returns : goal.returns
returns c = first_kept
