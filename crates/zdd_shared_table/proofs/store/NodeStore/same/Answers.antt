use Rattle.std.proofs.Common.{◌≡◌, ℕ, ◌^◌, ◌<◌, arith, eq-eqb, sym, ◌∙◌, ap, subst}
use Rattle.std.proofs.{lemmas.Bool.eqb-true, lemmas.Nat.pow_pos}
use Rattle.zdd_families.specs.Map.{Knows, family}
use Rattle.zdd_families.proofs.Canonical.{family-same}
use Rattle.zdd_shared_table.specs.{Known.find, Seats.map_of}
use Rattle.zdd_shared_table.proofs.Steps.{allows_look}
use Rattle.zdd_shared_table.proofs.store.NodeStore.same.Goals as goal

pub load-requires : goal.load-requires
load-requires c =
    let seat = c.seat.inside.place in
    let shared = c.self.inside.table.shared in
    let own : seat.table_id ≡ shared.table_id =
    ap (λ s. s.store) c.seat.view_is ∙ (c.requires.own ∙ sym c.self.view_is) in
    let kept = c.self.invariant in
    let bits : 2 ^ c.self.inside.bits ≡ 2 ^ shared.key = ap (λ k. 2 ^ k) (sym kept.2) in
    let some : 0 < shared.table_id.words = omega (arith, pow_pos c.self.inside.bits, kept.3) in (
      own,
      some,
      allows_look shared.key shared.table_id.slots seat.id seat.me.0 seat.me.1 0
          (c.seat.invariant.sized ∙ (ap (λ t. t.words) own ∙ (kept.3 ∙ bits))),
    )

pub returns-clause-families : goal.returns-clause-families
returns-clause-families c =
    let seat = c.seat.inside.place in
    let is : find seat.me.0.known ≡ map_of c.args.seat.now = ap map_of c.seat.view_is in
    let sound = c.load.ensures.2.2 in
    let after : find c.load.new.seat.me.0.known ≡ map_of c.args.seat.now =
    ap (λ v. find v.known) c.load.ensures.2.0 ∙ is in
    let K : (r : ℕ) → Knows (map_of c.args.seat.now) r → Knows (find c.load.new.seat.me.0.known) r =
    λ r h. subst (λ m. Knows m r) (sym after) h in
    let F : (r : ℕ) → family (find c.load.new.seat.me.0.known) r ≡ family (map_of c.args.seat.now) r =
    λ r. ap (λ m. family m r) after in (
      λ yes. ap (family (map_of c.args.seat.now)) (eqb-true c.args.a c.args.b (sym c.eq.ensures ∙ yes)),
      λ same. c.eq.ensures ∙ eq-eqb c.args.a c.args.b
          (family-same (find c.load.new.seat.me.0.known) c.args.a c.args.b sound.closed sound.unique
          (K c.args.a c.requires.knows_a) (K c.args.b c.requires.knows_b)
          (F c.args.a ∙ (same ∙ sym (F c.args.b)))),
    )
