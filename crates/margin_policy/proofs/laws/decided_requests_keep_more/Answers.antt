use Rattle.margin_policy.proofs.GuardLemmas.{decided_keeps_more}
use Rattle.margin_policy.proofs.laws.decided_requests_keep_more.Goals as goal

pub returns : goal.returns
returns c = decided_keeps_more
