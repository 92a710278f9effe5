use Rattle.std.proofs.lemmas.Bool.{leb-true}
use Rattle.many_families.proofs.VoteSteps.{fewer_vote, same_vote, voter_below, voted_at}
use Rattle.many_families.proofs.votes.vote_at.Goals as goal

pub join-requires : goal.join-requires
join-requires g c =
    let turn = c.requires in
    let fewer = c.fewer_votes-fewer.result in
    let same = c.same_votes-same.result in
    record {
      has = record {
        sound = turn.sound;
        has_voter = turn.is_voter.has;
        has_same = (same_vote turn c.fewer_votes-fewer.ensures c.same_votes-same.ensures).has;
        has_fewer = (fewer_vote turn c.fewer_votes-fewer.ensures c.same_votes-same.ensures).has;
      };
      below =
          λ t. voter_below turn c.fewer_votes-fewer.ensures c.same_votes-same.ensures (leb-true 1 c.args.lower t);
    }

pub returns : goal.returns
returns g c = (
  c.in_ok-made.ensures.went,
  voted_at c.requires c.fewer_votes-fewer.ensures c.same_votes-same.ensures c.in_ok-made.ensures,
)
