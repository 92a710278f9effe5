use Rattle.many_families.specs.Lists.{families}
use Rattle.many_families.proofs.votes.votes_of_all.Given as goal

abbrev pub ghost-vote_in_order : goal.ghost-vote_in_order
ghost-vote_in_order a = families a.memory.now a.members.now
