use Rattle.std.proofs.Common.{◌≡◌, length, subst, arith}
use Rattle.std.proofs.lemmas.Result.{err_from_is_err_and}
use Rattle.zdd_shared_table.specs.Seats.{map_of}
use Rattle.zdd_product.specs.Voting.{HoldsVotes}
use Rattle.zdd_product.proofs.VoteSteps.{known_stay, votes_on, votes_full}
use Rattle.zdd_product.proofs.ops.Ops.vote_all.Goals as goal

pub loop-i-preserved : goal.loop-i-preserved
loop-i-preserved c =
    let start = c.args.self.now in
    let list = c.args.list.now in
    let inv = c.loop-i.invariant in
    let done = c.in_ok-vote.ensures in
    record {
      on =
          votes_on c.vote.new.self list c.args.k c.requires.can.sound c.requires.can.knows inv.on done.0;
      knows =
          known_stay c.loop-i.self c.vote.new.self list inv.on.went.sound done.0.went.sound done.0.went.keeps inv.knows;
      space = omega arith;
      held = done.1;
    }

pub returns-in_err-vote : goal.returns-in_err-vote
returns-in_err-vote c =
    let start = c.args.self.now in
    let list = c.args.list.now in
    let inv = c.loop-i.invariant in
    let p = err_from_is_err_and c.from_residual.result c.from_residual.ensures.1 in
    rw p.1 (votes_full c.vote.new.self list c.args.k c.requires.can.sound c.requires.can.knows
    inv.on c.in_err-vote.ensures)

pub returns : goal.returns
returns c =
    let inv = c.loop-i.invariant in
    let end : c.loop-i.i ≡ length c.args.list.now = omega arith in
    (inv.on, subst (λ n. HoldsVotes (map_of c.loop-i.self) c.args.list.now n 0 c.args.k c.loop-i.room) end inv.held)
