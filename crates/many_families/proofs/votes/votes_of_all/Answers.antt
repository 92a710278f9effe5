use Rattle.std.proofs.Common.{◌≡◌, length, refl, arith}
use Rattle.std.proofs.lemmas.List.Sorted.{All-permutation, length_permutation}
use Rattle.family_memory.specs.Memory.{Has}
use Rattle.many_families.proofs.{Reordered.votes_reordered, VoteSteps.given_no_votes, VoteSteps.given_too_many}
use Rattle.many_families.proofs.votes.votes_of_all.Goals as goal

pub returns-then-votes-eq0-clause-gives : goal.returns-then-votes-eq0-clause-gives
returns-then-votes-eq0-clause-gives c =
    given_no_votes c.args.list.now c.args.votes c.is_sound.ensures c.if-votes-eq0.true

pub returns-then-list-votes-clause-gives : goal.returns-then-list-votes-clause-gives
returns-then-list-votes-clause-gives c =
    given_too_many c.args.list.now c.args.votes c.is_sound.ensures c.if-list-votes.true

pub vote_in_order-requires : goal.vote_in_order-requires
vote_in_order-requires c =
    let list = c.args.list.now in
    let members = c.put_in_order.new.places in
    let same : length members ≡ length list = length_permutation list members c.put_in_order.ensures in
    record {
      sound = c.is_sound.ensures;
      some = omega arith;
      enough = let h = c.if-list-votes.false in omega (arith, same, h);
      has = All-permutation (Has c.args.memory.now) list members c.put_in_order.ensures c.requires.has;
      of = refl;
    }

pub returns-clause-gives : goal.returns-clause-gives
returns-clause-gives c =
    votes_reordered c.args.memory.now c.vote_in_order.new.memory c.args.votes
    c.put_in_order.ensures c.vote_in_order.result c.vote_in_order.ensures
