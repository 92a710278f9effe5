use Rattle.std.proofs.Common.{◌<◌, length}
use Rattle.family_memory.specs.Memory.{Went}
use Rattle.many_families.specs.Lists.{IsVoter, IsVoting}
use Rattle.many_families.proofs.votes.vote.Given as goal

abbrev pub ghost-vote_at : goal.ghost-vote_at
ghost-vote_at g a = g.fs

abbrev pub invariant-loop-place : goal.invariant-loop-place
invariant-loop-place g l = record {
  went : Went l.initial.memory l.memory;
  inside : l.member < length l.members;
  voter : IsVoter l.memory g.fs l.member l.lower l.voter;
  voting : IsVoting l.memory g.fs l.votes l.member l.place l.members;
}
