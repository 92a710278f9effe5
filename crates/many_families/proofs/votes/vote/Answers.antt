use Rattle.std.proofs.Common.{◌≡◌, get_or, arith}
use Rattle.std.proofs.lemmas.List.{get_or_read}
use Rattle.family_memory.proofs.After.{Went-nowhere, Went-then}
use Rattle.many_families.proofs.VoteSteps.{member_voted, voter_begins, voter_stays, voting_begins}
use Rattle.many_families.proofs.votes.vote.Goals as goal

pub loop-place-init : goal.loop-place-init
loop-place-init g c =
    let held = c.args.memory.now in
    let members = c.args.members.now in
    let voter = c.index-members-member.result in
    let voter_is : voter ≡ get_or members c.args.member 0 =
    get_or_read members c.args.member voter c.requires.inside c.index-members-member.is 0 in
    record {
      went = Went-nowhere c.requires.sound;
      inside = c.requires.inside;
      voter = voter_begins c.requires voter_is c.floor_with-lower.result c.floor_with-lower.ensures;
      voting =
          voting_begins c.requires voter_is c.floor_with-lower.result c.floor_with-lower.ensures
          (λ at low enough. let e = c.max-first.ensures in omega (arith, e, low, enough));
    }

pub loop-place-preserved : goal.loop-place-preserved
loop-place-preserved g c =
    let inv = c.loop-place.invariant in
    let done = c.in_ok-vote_at.ensures in
    record {
      went = Went-then inv.went done.0;
      inside =
          let h = inv.inside in let before = inv.voting.count in let after = done.1.count in
          omega (arith, h, before, after);
      voter = voter_stays g.fs inv.went.sound done.0 inv.voter;
      voting = done.1;
    }

pub returns : goal.returns
returns g c =
    let inv = c.loop-place.invariant in (
      inv.went,
      member_voted c.args.votes inv.inside inv.voter inv.voting (λ at most within.
          let end = c.min-end.ensures in let sum = c.saturating_add.ensures in let past = c.loop-place-test.false in
          let count = inv.voting.count in let before = c.requires.voted.count in
          omega (arith, end, sum, past, count, before, most, within)),
    )
