use Rattle.std.proofs.Common.{◌≡◌, ◌-◌, ◌≤◌, sym, subst, ap, refl, arith}
use Rattle.unit_sets.proofs.Sorted.{Contains-nil}
use Rattle.atomic_table.specs.{Table.Me, Seated.TableId}
use Rattle.zdd_shared_table.specs.{Seats.IsSound, Seats.IsSeat, declared.view.View.View}
use Rattle.zdd_shared_table.proofs.store.NodeStore.split.Goals as goal
use Rattle.zdd_shared_table.proofs.store.NodeStore.split.Goals.{After-cut}

new_seat : (c : After-cut) → IsSeat c.cut.result.table_id c.cut.result.me
new_seat c =
    let own = c.seat.invariant in
    let P : TableId × Me (Unit {0}) View → Type 0 = λ p. IsSeat p.0 p.1 in
    subst P (λ i. (sym c.cut.ensures.at i, sym c.cut.ensures.right i))
    record {
      holds_none = refl;
      sized = own.sized;
      shares = c.requires.some;
      sound = record {
        closed = own.sound.closed;
        unique = own.sound.unique;
        agree = own.sound.agree;
        within = own.sound.within;
        missed = λ word none. Contains-nil word none;
        fills = λ reference none. Contains-nil reference none;
      };
    }

old_seat : (c : After-cut) → IsSeat c.cut.new.seat.table_id c.cut.new.seat.me
old_seat c =
    let seat = c.seat.inside.place in
    let own = c.seat.invariant in
    let P : TableId × Me (Unit {0}) View → Type 0 = λ p. IsSeat p.0 p.1 in
    let has : seat.me.0.share ≡ c.args.seat.now.share = ap (λ s. s.share) c.seat.view_is in
    let left : 1 ≤ seat.me.0.share - c.args.share = let less = c.requires.less in omega arith in
    subst P (λ i. (sym c.cut.ensures.stays.0 i, sym c.cut.ensures.left i))
    record { holds_none = own.holds_none; sized = own.sized; shares = left; sound = own.sound }

sound_of : {id : TableId} {me : Me (Unit {0}) View} → IsSeat id me → IsSound id.words me.0.known me.0.missed me.0.fills
sound_of {me} seat = subst (λ n. IsSound n me.0.known me.0.missed me.0.fills) seat.sized seat.sound

pub invariant_of-result : goal.invariant_of-result
invariant_of-result c = new_seat c

pub returns-clause-sound : goal.returns-clause-sound
returns-clause-sound c = (
  sound_of (new_seat c),
  sound_of (old_seat c),
)
