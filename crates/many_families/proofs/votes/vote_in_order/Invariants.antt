use Rattle.std.proofs.Common.{◌≤◌, length}
use Rattle.family_memory.specs.Memory.{Went}
use Rattle.many_families.specs.Lists.{HaveVoted}
use Rattle.many_families.proofs.votes.vote_in_order.Given as goal

abbrev pub ghost-vote : goal.ghost-vote
ghost-vote g a = g.fs

abbrev pub invariant-loop-member : goal.invariant-loop-member
invariant-loop-member g l = record {
  went : Went l.initial.memory l.memory;
  space : l.votes ≤ length l.members;
  below : l.member ≤ length l.members;
  voted : HaveVoted l.memory g.fs l.votes l.member l.floor l.members;
}

abbrev pub decreases-loop-member : goal.decreases-loop-member
decreases-loop-member g l = l.member
