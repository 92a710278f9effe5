use Rattle.zdd_families.proofs.VotesLemmas.{no_votes, no_more_votes, votes-none_step, votes-step}
use Rattle.zdd_families.proofs.operation_laws.votes_by_members.Goals as goal

pub returns-clause-no_votes : goal.returns-clause-no_votes
returns-clause-no_votes c = no_votes

pub returns-clause-too_many : goal.returns-clause-too_many
returns-clause-too_many c = no_more_votes

pub returns-clause-none : goal.returns-clause-none
returns-clause-none c = votes-none_step

pub returns-clause-one_more : goal.returns-clause-one_more
returns-clause-one_more c = votes-step
