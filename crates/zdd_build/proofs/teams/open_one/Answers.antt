use Rattle.std.proofs.Common.{◌≡◌, ◌∙◌, ◌+◌, ap, arith, subst}
use Rattle.zdd_shared_table.specs.Seats.{Seated}
use Rattle.zdd_product.specs.Seats.{Joined}
use Rattle.zdd_build.proofs.TeamLemmas.{joined_is, split_join, split_none}
use Rattle.zdd_build.proofs.teams.open_one.Goals as goal

pub returns-in-Err-clause-refused : goal.returns-in-Err-clause-refused
returns-in-Err-clause-refused c =
    let split = c.split.ensures in
    let is = c.join.ensures in
    split_none (split_join c.args.seat.now c.join.new.seat 2 split.fulls split.fills
    (subst (λ (s : Seated). Joined c.split.new.seat s c.join.new.seat) c.in-Err.ensures.seat
    (joined_is is.store is.keeps is.gains is.sound is.fills is.missed is.fulls)) split.seat
    (let some = c.requires.share in omega (arith, some))
    (is.share ∙ ap (λ (s : Seated). c.split.new.seat.share + s.share) c.in-Err.ensures.seat) split.share)

pub returns-in-Err-new-clause-refused : goal.returns-in-Err-new-clause-refused
returns-in-Err-new-clause-refused c =
    let split = c.split.ensures in
    let is = c.join-in-Err-new.ensures in
    let back : c.into_seat-back.result ≡ c.split.result = c.into_seat-back.ensures ∙ c.in-Ok.ensures.seat in
    split_none (split_join c.args.seat.now c.join-in-Err-new.new.seat 2 split.fulls split.fills
    (subst (λ (s : Seated). Joined c.split.new.seat s c.join-in-Err-new.new.seat) back
    (joined_is is.store is.keeps is.gains is.sound is.fills is.missed is.fulls)) split.seat
    (let some = c.requires.share in omega (arith, some))
    (is.share ∙ ap (λ (s : Seated). c.split.new.seat.share + s.share) back) split.share)
