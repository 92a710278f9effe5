use Rattle.std.proofs.Common.{◌∙◌, ℕ, List, length, subst, sym, ap, arith}
use Rattle.std.proofs.lemmas.List.{length_push}
use Rattle.tree_families.specs.Due.{IsDueToTree}
use Rattle.zdd_shared_table.specs.Seats.{Seated}
use Rattle.zdd_product.specs.Seats.{CountsDue, Joined}
use Rattle.zdd_product.proofs.Several.{WentAll-nowhere}
use Rattle.zdd_build.specs.declared.worker.Worker.{Worker}
use Rattle.zdd_build.specs.Workers.{CanWork, FindsFull, IsNew, IsReady}
use Rattle.zdd_build.proofs.TeamLemmas.{close_full, close_new, close_went, joined_is, last_is, others_are}
use Rattle.zdd_build.proofs.teams.+close.Goals as goal
use Rattle.zdd_build.proofs.teams.+close.Goals.{After-into_seat, After-join}

pub returns-in_default-clause-went : goal.returns-in_default-clause-went
returns-in_default-clause-went t c = WentAll-nowhere (IsDueToTree c.args.task.tree.now) c.is_sound.ensures.sound

-- the last worker of the team
can : (t : ℕ) (c : After-into_seat t) → CanWork c.args.task c.in-Some.worker
can t c =
    (last_is (IsReady c.args.task) c.pop.new.self.items c.in-Some.worker c.in-Some.ensures.items c.requires.ready).can

-- the seat has taken in what the last worker had
joined : (t : ℕ) (c : After-join t) → Joined c.args.seat.now c.into_seat.result c.join.new.seat
joined t c =
    let is = c.join.ensures in
    joined_is is.store is.keeps is.gains is.sound is.fills is.missed is.fulls

pub join-requires-clause-others : goal.join-requires-clause-others
join-requires-clause-others t c =
    ap (λ (s : Seated). s.store) c.into_seat.ensures
    ∙ (can t (goal.at.join-requires-clause-others t c).After-into_seat).own

pub returns-clause-went : goal.returns-clause-went
returns-clause-went t c =
    let to = goal.at.returns-clause-went t c in
    let due = IsDueToTree c.args.task.tree.now in
    close_went c.close.new.seat (joined t to.After-join)
    (subst (CountsDue due) (sym c.into_seat.ensures) (can t to.After-into_seat).counts) c.close.ensures.went

pub returns-clause-share : goal.returns-clause-share
returns-clause-share t c =
    let two = (can t (goal.at.returns-clause-share t c).After-into_seat).share in
    let same = ap (λ (s : Seated). s.share) c.into_seat.ensures in
    let joined = c.join.ensures.share in
    let rest = c.close.ensures.share in
    let more = length_push c.pop.new.self.items c.in-Some.worker in
    let whole = ap (λ (l : List Worker). length l) c.in-Some.ensures.items in
    omega (arith, two, same, joined, rest, more, whole)

pub returns-clause-full : goal.returns-clause-full
returns-clause-full t c finds =
    let to = goal.at.returns-clause-full t c in
    close_full c.close.new.seat (joined t to.After-join) c.pop.new.self.items
    (sym c.into_seat.ensures) (can t to.After-into_seat) c.close.ensures.went c.close.ensures.full
    (subst FindsFull c.in-Some.ensures.items finds)

pub returns-clause-new : goal.returns-clause-new
returns-clause-new t c new =
    let last : IsNew c.in-Some.worker =
    last_is IsNew c.pop.new.self.items c.in-Some.worker c.in-Some.ensures.items new in
    close_new c.close.new.seat (joined t (goal.at.returns-clause-new t c).After-join)
    (ap (λ (s : Seated). s.fulls) c.into_seat.ensures ∙ last.fulls)
    (ap (λ (s : Seated). s.missed) c.into_seat.ensures ∙ last.missed)
    (ap (λ (s : Seated). s.fills) c.into_seat.ensures ∙ last.fills)
    (c.close.ensures.new (others_are IsNew c.pop.new.self.items c.in-Some.worker c.in-Some.ensures.items new))
