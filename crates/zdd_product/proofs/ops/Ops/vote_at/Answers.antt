use Rattle.std.proofs.Common.{◌≡◌, ℕ, get_or, refl, arith}
use Rattle.std.proofs.{lemmas.List.get_or_read, lemmas.Result.err_from_is_err_and}
use Rattle.zdd_product.proofs.VoteSteps.{IsVotingAt, vote_product_full, vote_same_known, vote_union_full, vote_on}
use Rattle.zdd_product.proofs.VoteSteps.{vote_held}
use Rattle.zdd_product.proofs.ops.Ops.vote_at.Goals as goal
use Rattle.zdd_product.proofs.ops.Ops.vote_at.Goals.{After-multiply, After-index-room-place}

-- what is known once the votes one fewer and the member were read
turn : (c : After-multiply) {same : ℕ} → same ≡ get_or c.args.room.now c.args.place 0
    → IsVotingAt c.args.self.now c.args.list.now c.args.room.now c.args.k c.args.i c.args.place
    c.fewer_votes-fewer.result c.index-list-i.result same
turn c same_is = record {
  sound = c.requires.can.sound;
  knows = c.requires.can.knows;
  within = c.requires.within;
  here = c.requires.place;
  space = c.requires.can.space;
  held = c.requires.held;
  fewer_is = c.fewer_votes-fewer.ensures;
  member_is = get_or_read c.args.list.now c.args.i c.index-list-i.result c.requires.within c.index-list-i.is 0;
  same_is = same_is;
}

-- the votes at the place
same_read : (c : After-index-room-place) → c.index-room-place.result ≡ get_or c.args.room.now c.args.place 0
same_read c =
    let here = c.requires.place in
    let space = c.requires.can.space in
    get_or_read c.args.room.now c.args.place c.index-room-place.result (omega arith) c.index-room-place.is 0

pub returns-in_err-more : goal.returns-in_err-more
returns-in_err-more c =
    let at = turn (goal.at.returns-in_err-more c).After-multiply refl in
    let p = err_from_is_err_and c.from_residual.result c.from_residual.ensures.1 in
    rw p.1 (vote_product_full at c.in_err-more.ensures)

pub unite-requires : goal.unite-requires
unite-requires c =
    let to = goal.at.unite-requires c in
    let at = turn to.After-multiply (same_read to.After-index-room-place) in
    record {
      sound = c.in_ok-more.ensures.on.went.sound;
      first = vote_same_known at c.in_ok-more.ensures;
      second = c.in_ok-more.ensures.known.0;
    }

pub returns-in_err-made : goal.returns-in_err-made
returns-in_err-made c =
    let to = goal.at.returns-in_err-made c in
    let at = turn to.After-multiply (same_read to.After-index-room-place) in
    let p = err_from_is_err_and c.from_residual-in_err-made.result c.from_residual-in_err-made.ensures.1 in
    rw p.1 (vote_union_full at c.in_ok-more.ensures c.in_err-made.ensures)

pub returns : goal.returns
returns c =
    let to = goal.at.returns c in
    let at = turn to.After-multiply (same_read to.After-index-room-place) in
    (vote_on at c.in_ok-more.ensures c.in_ok-made.ensures, vote_held at c.in_ok-more.ensures c.in_ok-made.ensures)
