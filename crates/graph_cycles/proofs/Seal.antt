-- Closing some nodes, one after the other.
use Rattle.std.proofs.Common.{◌≡◌, ◌≢◌, ℕ, zero, suc, ◌+◌, ◌<◌, Bool, List, [], ◌∷◌, length, take}
use Rattle.std.proofs.Common.{IsTrue, refl, sym, ap, ◌∙◌, inl, inr, arith}
use Rattle.std.specs.Prelude.{slice_index, slice_set, ◌==◌}
use Rattle.std.proofs.lemmas.List.{length-set, get_or-set_same, get_or-set_other, get_or-take, length-take-le}
use Rattle.std.proofs.lemmas.Bool.{cases_lt, cases_eq, or_left, or_right, eq-eqb}
use Rattle.graph_cycles.specs.Graph.{has}
use Rattle.graph_cycles.specs.declared.walk.Stage.{Stage}
use Rattle.graph_cycles.specs.declared.walk.Stage.TheVariants.{Closed}
use Rattle.graph_cycles.specs.Walk.{AreSet, Closes}

-- a list has what stands at each of its places
pub has-at : (xs : List ℕ) (i : ℕ) → i < length xs → IsTrue (has xs (slice_index xs i))
has-at [] i l = absurd (omega arith)
has-at (x ∷ xs) zero l = or_left (x == x) (has xs x) (eq-eqb x x refl)
has-at (x ∷ xs) (suc i) l = or_right (x == slice_index xs i) (has xs (slice_index xs i)) (has-at xs i (omega arith))

AreSet-more : {A : Type 0} (places : List ℕ) (i : ℕ) {value default : A} {old new : List A}
    → i < length places → slice_index places i < length new → AreSet (take i places) value default old new
    → AreSet (take (i + 1) places) value default old (slice_set new (slice_index places i) value)
AreSet-more places i {value} {default} {new} l within h = record {
  same = length-set new v value ∙ h.same;
  inside = λ k below. elim (cases_eq (slice_index places k) v) [
    | inl last ↦ rw (front k below, last) (get_or-set_same new v value default within)
    | inr other ↦
        let earlier : k < i = before k below other in
        rw (
          front k below,
          get_or-set_other new v (slice_index places k) value default other,
          ← get_or-take i places k 0 earlier,
        ) (h.inside k (omega (arith, short)))
  ];
  outside = λ x apart.
      get_or-set_other new v x value default
      (λ last. apart i (omega (arith, long)) (front i (omega (arith, long)) ∙ sym last))
      ∙ h.outside x (λ k below is. apart k (omega (arith, short, long))
      (front k (omega (arith, short, long)) ∙ (sym (get_or-take i places k 0 (omega (arith, short))) ∙ is)));
}
  where
    v : ℕ
    v = slice_index places i

    short : length (take i places) ≡ i
    short = length-take-le i places (omega arith)

    long : length (take (i + 1) places) ≡ i + 1
    long = length-take-le (i + 1) places (omega arith)

    front : (k : ℕ) → k < length (take (i + 1) places) → slice_index (take (i + 1) places) k ≡ slice_index places k
    front k below = get_or-take (i + 1) places k 0 (omega (arith, long))

    before : (k : ℕ) → k < length (take (i + 1) places) → slice_index places k ≢ slice_index places i → k < i
    before k below other = elim (cases_lt k i) [
      | inl earlier ↦ earlier
      | inr last ↦ let same : k ≡ i = omega (arith, long) in absurd (other (ap (slice_index places) same))
    ]

pub Closes-more : (nodes : List ℕ) (i : ℕ) {mark : Bool} {stages stages' : List Stage} {marks marks' : List Bool}
    → i < length nodes → slice_index nodes i < length stages' → slice_index nodes i < length marks'
    → Closes (take i nodes) mark stages stages' marks marks'
    → Closes (take (i + 1) nodes) mark stages (slice_set stages' (slice_index nodes i) Closed) marks
    (slice_set marks' (slice_index nodes i) mark)
Closes-more nodes i l in_stages in_marks h = record {
  closed = AreSet-more nodes i l in_stages h.closed;
  marked = AreSet-more nodes i l in_marks h.marked;
}

-- the same, of lists and marks that are equal to these
pub Closes-as : {nodes nodes' : List ℕ} {mark mark' : Bool} {a a' b b' : List Stage} {m m' n n' : List Bool}
    → nodes ≡ nodes' → mark ≡ mark' → a ≡ a' → b ≡ b' → m ≡ m' → n ≡ n'
    → Closes nodes' mark' a' b' m' n' → Closes nodes mark a b m n
Closes-as e1 e2 e3 e4 e5 e6 h =
    rw (e1, e2, e3, e4, e5, e6) h
