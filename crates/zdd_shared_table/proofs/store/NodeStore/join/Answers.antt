use Rattle.std.proofs.Common.{◌≡◌, ◌<◌, ◌^◌, ◌++◌, sym, ◌∙◌, ap, subst, arith, Contains}
use Rattle.std.proofs.lemmas.List.Elements.{Contains-append_right}
use Rattle.std.proofs.lemmas.Nat.{pow_pos}
use Rattle.zdd_families.specs.Map.{Grown}
use Rattle.zdd_shared_table.specs.{Known.find, Seats.map_of}
use Rattle.zdd_shared_table.proofs.{Maps.find-front, Nodes.grown_sound, Steps.allows_join, Steps.allows_look}
use Rattle.zdd_shared_table.proofs.{store.NodeStore.join.Goals.After-load}
use Rattle.zdd_shared_table.proofs.store.NodeStore.join.Goals as goal

pub join_seat-requires : goal.join_seat-requires
join_seat-requires c =
    let seat = c.seat.inside.place in
    let other = c.other.inside.place in
    let shared = c.self.inside.table.shared in
    let own : seat.table_id ≡ shared.table_id =
    ap (λ s. s.store) c.seat.view_is ∙ (c.requires.own ∙ sym c.self.view_is) in
    let others : other.table_id ≡ shared.table_id =
    ap (λ s. s.store) c.other.view_is ∙ (c.requires.others ∙ sym c.self.view_is) in
    let some : 0 < shared.table_id.words = omega (arith, pow_pos c.self.inside.bits, c.self.invariant.3) in
    (own, others, c.other.invariant.holds_none, some, allows_join shared.key)

pub load-requires : goal.load-requires
load-requires c =
    let seat = c.join_seat.new.seat in
    let shared = c.self.inside.table.shared in
    let before : c.seat.inside.place.table_id ≡ shared.table_id =
    ap (λ s. s.store) c.seat.view_is ∙ (c.requires.own ∙ sym c.self.view_is) in
    let own : seat.table_id ≡ shared.table_id = c.join_seat.ensures.0 ∙ before in
    let kept = c.self.invariant in
    let bits : 2 ^ c.self.inside.bits ≡ 2 ^ shared.key = ap (λ k. 2 ^ k) (sym kept.2) in
    let some : 0 < shared.table_id.words = omega (arith, pow_pos c.self.inside.bits, kept.3) in
    let sized : seat.me.0.size ≡ 2 ^ shared.key =
    ap (λ m. m.0.size) c.join_seat.ensures.2 ∙ (c.seat.invariant.sized
    ∙ (ap (λ t. t.words) before ∙ (kept.3 ∙ bits))) in
    (own, some, allows_look shared.key shared.table_id.slots seat.id seat.me.0 seat.me.1 0 sized)

known_after : (c : After-load) → c.load.new.seat.me.0.known
    ≡ c.seat.inside.place.me.0.known ++ c.other.inside.place.me.0.known
known_after c = ap (λ v. v.known) c.load.ensures.2.0 ∙ ap (λ m. m.0.known) c.join_seat.ensures.2

pub returns-clause-keeps : goal.returns-clause-keeps
returns-clause-keeps c =
    let after = c.load.new.seat.me.0 in
    let mine = c.seat.inside.place.me.0.known in
    let theirs = c.other.inside.place.me.0.known in
    subst (λ m. Grown m (find after.known)) (ap map_of c.seat.view_is)
    (subst (λ l. Grown (find mine) (find l)) (sym (known_after c)) (find-front mine theirs))

pub returns-clause-gains : goal.returns-clause-gains
returns-clause-gains c =
    let after = c.load.new.seat.me.0 in
    let mine = c.seat.inside.place.me.0.known in
    let theirs = c.other.inside.place.me.0.known in
    subst (λ m. Grown m (find after.known)) (ap map_of c.other.view_is) (grown_sound theirs c.load.ensures.2.2
    (λ pair h. subst (λ l. Contains l pair) (sym (known_after c)) (Contains-append_right mine theirs pair h)))
