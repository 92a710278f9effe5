-- Units of a row that are marked one after another.
use Rattle.std.specs.Prelude.{◌≡◌, ℕ, ◌+◌, ◌<◌, ◌≤◌, Bool, true, false, ◌&&◌, ◌||◌, not, ◌==◌, List, [], ◌∷◌, length}
use Rattle.std.specs.Prelude.{take, get_or}
use Rattle.std.proofs.Common.{refl, sym, ◌∙◌, ap, arith}
use Rattle.std.proofs.{Math.Bool.or-false, lemmas.Bool.Decides.nat_tests, lemmas.List.take_more, lemmas.List.take_all}
use Rattle.std.proofs.{lemmas.List.Folds.list_any-append, lemmas.List.Elements.Contains-get_or}
use Rattle.unit_sets.specs.UnitList.{among, with_unit, without_unit}
use Rattle.unit_sets.proofs.UnitListLemmas.{among-with_unit, among-without_unit, among-from_Contains}

and-not : (a : Bool) → (a && not a) ≡ false
and-not true = refl
and-not false = refl

eqb_sym : (a b : ℕ) → (a == b) ≡ (b == a)
eqb_sym a b = grind (arith, nat_tests)

take_out : (a b : Bool) {e f : Bool} → e ≡ f → ((a && not b) && not e) ≡ (a && not (b || f))
take_out true true same = refl
take_out true false same = ap not same
take_out false b same = refl

pub among_next : (set : List ℕ) {unit : ℕ} (i d other : ℕ) → i < length set → unit ≡ get_or set i d
    → among (take (i + 1) set) other ≡ (among (take i set) other || (unit == other))
among_next set {unit} i d other short is =
    ap (λ (l : List ℕ). among l other) (take_more set i d short)
    ∙ list_any-append (λ member. member == other) (take i set) (get_or set i d ∷ [])
    ∙ ap (λ (u : ℕ). among (take i set) other || ((u == other) || false)) (sym is)
    ∙ ap (λ b. among (take i set) other || b) (or-false (unit == other))

pub marks_fewer : (set marked : List ℕ) {new : List ℕ} {unit : ℕ} (i d : ℕ) → i < length set → unit ≡ get_or set i d
    → ((other : ℕ) → among marked other ≡ (among set other && not (among (take i set) other)))
    → new ≡ without_unit unit marked → (other : ℕ)
    → among new other ≡ (among set other && not (among (take (i + 1) set) other))
marks_fewer set marked {unit} i d short is before without_it other =
    ap (λ (l : List ℕ). among l other) without_it
    ∙ among-without_unit unit marked other
    ∙ ap (λ b. b && not (other == unit)) (before other)
    ∙ take_out (among set other) (among (take i set) other) (eqb_sym other unit)
    ∙ ap (λ b. among set other && not b) (sym (among_next set i d other short is))

-- a set without members
pub no_members : (set : List ℕ) → ((unit : ℕ) → among set unit ≡ false) → set ≡ []
no_members [] none = refl
no_members (first ∷ others) none =
    let here : among (first ∷ others) first ≡ true =
    among-from_Contains (first ∷ others) first (Contains-get_or (first ∷ others) 0 first (omega arith)) in
    let nowhere = none first in
    absurd cc

pub all_taken_out : (set : List ℕ) {marked : List ℕ} (i : ℕ) → length set ≤ i
    → ((other : ℕ) → among marked other ≡ (among set other && not (among (take i set) other))) → marked ≡ []
all_taken_out set {marked} i long left =
    no_members marked (λ unit. left unit ∙ ap (λ (l : List ℕ). among set unit && not (among l unit))
    (take_all i set long) ∙ and-not (among set unit))

turned : (old front : Bool) {met : Bool} (unit : Bool) → met ≡ (old || front) → (unit || met) ≡ (old || (front || unit))
turned true front true e = refl
turned true true false e = e
turned true false false e = e
turned false true true e = refl
turned false false true e = refl
turned false true false e = e
turned false false false e = e

pub set_more : (old set seen : List ℕ) {new : List ℕ} {unit : ℕ} (i d : ℕ) → i < length set → unit ≡ get_or set i d
    → ((other : ℕ) → among seen other ≡ (among old other || among (take i set) other))
    → new ≡ with_unit unit seen → (other : ℕ) → among new other ≡ (among old other || among (take (i + 1) set) other)
set_more old set seen {unit} i d short is before with_it other =
    ap (λ (l : List ℕ). among l other) with_it
    ∙ among-with_unit unit seen other
    ∙ turned (among old other) (among (take i set) other) (unit == other) (before other)
    ∙ ap (λ b. among old other || b) (sym (among_next set i d other short is))
