use Rattle.std.proofs.{Common.arith, lemmas.Result.err_from_is_err_and}
use Rattle.zdd_product.proofs.VoteSteps.{known_stay, votes_on, votes_full}
use Rattle.zdd_product.proofs.ops.Ops.vote.Goals as goal

pub loop-place-preserved : goal.loop-place-preserved
loop-place-preserved c =
    let start = c.args.self.now in
    let list = c.args.list.now in
    let inv = c.loop-place.invariant in
    let done = c.in_ok-vote_at.ensures in
    record {
      on =
          votes_on c.vote_at.new.self list c.args.k c.requires.can.sound c.requires.can.knows inv.on done.0;
      knows =
          known_stay c.loop-place.self c.vote_at.new.self list inv.on.went.sound done.0.went.sound done.0.went.keeps
          inv.knows;
      space = omega arith;
      below = omega arith;
      held = done.1;
    }

pub returns-in_err-vote_at : goal.returns-in_err-vote_at
returns-in_err-vote_at c =
    let start = c.args.self.now in
    let list = c.args.list.now in
    let inv = c.loop-place.invariant in
    let p = err_from_is_err_and c.from_residual.result c.from_residual.ensures.1 in
    rw p.1 (votes_full c.vote_at.new.self list c.args.k c.requires.can.sound
    c.requires.can.knows inv.on c.in_err-vote_at.ensures)
