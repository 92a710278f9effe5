-- What follows from the definitions of `specs/UnitList`.
use Rattle.std.specs.Prelude.{◌≡◌, ℕ, Bool, true, false, not, ◌&&◌, ◌||◌, ◌==◌, nat_lt, List, [], ◌∷◌, filter}
use Rattle.std.specs.Prelude.{Contains, if◌then◌else◌}
use Rattle.std.specs.{List.AllByRecursion, List.Sorted.IsStrictlySortedBy, Ordering.nat_cmp}
use Rattle.std.specs.{declared.cmp.Ordering.TheVariants.Less}
use Rattle.std.proofs.Common.{refl, sym, ◌∙◌, ap, subst, inl, inr, arith, eq-eqb}
use Rattle.std.proofs.lemmas.Bool.{or_cases, or_left, or_right, and_parts, and_from, cond_both}
use Rattle.std.proofs.{lemmas.Bool.Decides.nat_tests, lemmas.Cmp.nat_cmp_total}
use Rattle.std.proofs.{lemmas.List.Kept.IsStrictlySortedBy-filter}
use Rattle.unit_sets.proofs.Sorted.{same_from_members, Contains-cons_first, Contains-cons_other, Contains-cons_cases}
use Rattle.unit_sets.specs.UnitList.{IsRising, among, is_within, with_unit, without_unit}

-- ---- membership by the test and by `Contains`

pub Contains-from_among : (set : List ℕ) (unit : ℕ) → among set unit ≡ true → Contains set unit
Contains-from_among [] unit h = absurd cc
Contains-from_among (first ∷ others) unit h =
    elim (or_cases (first == unit) (among others unit) h) [
      | inl here ↦ let same : first ≡ unit =
          grind (arith, nat_tests) in subst (λ (q : ℕ). Contains (first ∷ others) q) same
          (Contains-cons_first first others)
      | inr later ↦ Contains-cons_other first unit others (Contains-from_among others unit later)
    ]

pub among-from_Contains : (set : List ℕ) (unit : ℕ) → Contains set unit → among set unit ≡ true
among-from_Contains [] unit (k, short, same) = absurd (omega arith)
among-from_Contains (first ∷ others) unit h =
    elim (Contains-cons_cases first unit others h) [
      | inl same ↦ or_left (first == unit) (among others unit) (eq-eqb first unit same)
      | inr later ↦ or_right (first == unit) (among others unit) (among-from_Contains others unit later)
    ]

-- Two rising lists that answer alike for every unit are equal.
pub same_set : (xs ys : List ℕ) → IsRising xs → IsRising ys → ((unit : ℕ) → among xs unit ≡ among ys unit) → xs ≡ ys
same_set xs ys s t alike =
    same_from_members nat_cmp_total xs ys s t
    (λ z h. Contains-from_among ys z (sym (alike z) ∙ among-from_Contains xs z h))
    (λ z h. Contains-from_among xs z (alike z ∙ among-from_Contains ys z h))

-- ---- what the operations leave

-- two numbers that the test calls equal are equal
same_by_test : (a b : ℕ) → (a == b) ≡ true → a ≡ b
same_by_test a b h = grind (arith, nat_tests)

test_of_same : (a b : ℕ) (p : ℕ → Bool) {r : Bool} → p a ≡ r → (a == b) ≡ true → p b ≡ r
test_of_same a b p {r} at h = subst (λ (q : ℕ). p q ≡ r) (same_by_test a b h) at

and-false : (a : Bool) → (a && false) ≡ false
and-false true = refl
and-false false = refl

kept_first : (f a k : Bool) {c : Bool} → c ≡ (a && k) → (f ≡ true → k ≡ true) → (f || c) ≡ ((f || a) && k)
kept_first true a k e h = sym (h refl)
kept_first false a k e h = e

dropped_first : (f a k : Bool) {c : Bool} → c ≡ (a && k) → (f ≡ true → k ≡ false) → c ≡ ((f || a) && k)
dropped_first true a k e h = e ∙ ap (λ b. a && b) (h refl) ∙ and-false a ∙ sym (h refl)
dropped_first false a k e h = e

already : (u : Bool) {f : Bool} (a : Bool) → u ≡ f → (f || a) ≡ (u || (f || a))
already true a e = ap (λ b. b || a) (sym e)
already false a e = refl

or_swap : (f u a : Bool) → (f || (u || a)) ≡ (u || (f || a))
or_swap true true a = refl
or_swap true false a = refl
or_swap false u a = refl

pub among-filter : (keep : ℕ → Bool) (set : List ℕ) (unit : ℕ)
    → among (filter keep set) unit ≡ (among set unit && keep unit)
among-filter keep [] unit = refl
among-filter keep (first ∷ others) unit =
    let ih : among (filter keep others) unit ≡ (among others unit && keep unit) = among-filter keep others unit in
    cond_both (keep first) (first ∷ filter keep others) (filter keep others)
    (λ kept. among kept unit ≡ (among (first ∷ others) unit && keep unit))
    (λ yes. kept_first (first == unit) (among others unit) (keep unit) ih (test_of_same first unit keep yes))
    (λ no. dropped_first (first == unit) (among others unit) (keep unit) ih (test_of_same first unit keep no))

pub among-with_unit : (unit : ℕ) (set : List ℕ) (other : ℕ)
    → among (with_unit unit set) other ≡ ((unit == other) || among set other)
among-with_unit unit [] other = refl
among-with_unit unit (first ∷ others) other =
    let ih : among (with_unit unit others) other ≡ ((unit == other) || among others other) =
    among-with_unit unit others other in
    cond_both (nat_lt unit first) (unit ∷ first ∷ others)
    (if first == unit then first ∷ others else first ∷ with_unit unit others)
    (λ new. among new other ≡ ((unit == other) || among (first ∷ others) other))
    (λ below. refl)
    (λ _. cond_both (first == unit) (first ∷ others) (first ∷ with_unit unit others)
    (λ new. among new other ≡ ((unit == other) || among (first ∷ others) other))
    (λ same. already (unit == other) (among others other) (ap (λ q. q == other) (sym (same_by_test first unit same))))
    (λ _. ap (λ b. (first == other) || b) ih ∙ or_swap (first == other) (unit == other) (among others other)))

pub among-without_unit : (unit : ℕ) (set : List ℕ) (other : ℕ)
    → among (without_unit unit set) other ≡ (among set other && not (other == unit))
among-without_unit unit set other = among-filter (λ member. not (member == unit)) set other

pub IsRising-without_unit : (unit : ℕ) (set : List ℕ) → IsRising set → IsRising (without_unit unit set)
IsRising-without_unit unit set s = IsStrictlySortedBy-filter nat_cmp (λ member. not (member == unit)) set s

less_from_below : (a b : ℕ) → nat_lt a b ≡ true → nat_cmp a b ≡ Less
less_from_below a b h = grind (arith, nat_tests)

less_from_above : (a b : ℕ) → nat_lt a b ≡ false → (b == a) ≡ false → nat_cmp b a ≡ Less
less_from_above a b h k = grind (arith, nat_tests)

below_later : (unit first : ℕ) (others : List ℕ) → nat_cmp unit first ≡ Less
    → AllByRecursion (λ y. nat_cmp first y ≡ Less) others → AllByRecursion (λ y. nat_cmp unit y ≡ Less) others
below_later unit first [] below s = tt
below_later unit first (next ∷ others) below s =
    (nat_cmp_total.trans unit first next below s.0, below_later unit first others below s.1)

-- what holds of the unit and of each member holds of each member afterwards
all_with_unit : (P : ℕ → Type 0) (unit : ℕ) (set : List ℕ) → P unit → AllByRecursion P set
    → AllByRecursion P (with_unit unit set)
all_with_unit P unit [] one all = (one, tt)
all_with_unit P unit (first ∷ others) one all =
    cond_both (nat_lt unit first) (unit ∷ first ∷ others)
    (if first == unit then first ∷ others else first ∷ with_unit unit others) (AllByRecursion P)
    (λ _. (one, all))
    (λ _. cond_both (first == unit) (first ∷ others) (first ∷ with_unit unit others) (AllByRecursion P)
    (λ _. all)
    (λ _. (all.0, all_with_unit P unit others one all.1)))

below_all : (unit first : ℕ) (others : List ℕ) → nat_lt unit first ≡ true → IsRising (first ∷ others)
    → AllByRecursion (λ y. nat_cmp unit y ≡ Less) (first ∷ others)
unfolding IsStrictlySortedBy
below_all unit first others below s =
    let less : nat_cmp unit first ≡ Less = less_from_below unit first below in
    (less, below_later unit first others less s.0)

still_first : (unit first : ℕ) (others : List ℕ) → nat_lt unit first ≡ false → (first == unit) ≡ false
    → AllByRecursion (λ y. nat_cmp first y ≡ Less) others
    → AllByRecursion (λ y. nat_cmp first y ≡ Less) (with_unit unit others)
still_first unit first others not_below other s =
    all_with_unit (λ y. nat_cmp first y ≡ Less) unit others (less_from_above unit first not_below other) s

pub IsRising-with_unit : (unit : ℕ) (set : List ℕ) → IsRising set → IsRising (with_unit unit set)
unfolding IsStrictlySortedBy
IsRising-with_unit unit [] s = (tt, tt)
IsRising-with_unit unit (first ∷ others) s =
    cond_both (nat_lt unit first) (unit ∷ first ∷ others)
    (if first == unit then first ∷ others else first ∷ with_unit unit others) IsRising
    (λ below. (below_all unit first others below s, s))
    (λ not_below. cond_both (first == unit) (first ∷ others) (first ∷ with_unit unit others) IsRising
    (λ _. s)
    (λ other. (still_first unit first others not_below other s.0, IsRising-with_unit unit others s.1)))

-- ---- a set within another, by its members

pub among-from_is_within : (other set : List ℕ) (unit : ℕ) → is_within other set ≡ true → among set unit ≡ true
    → among other unit ≡ true
among-from_is_within other [] unit within h = absurd cc
among-from_is_within other (first ∷ others) unit within h =
    let both : (among other first ≡ true) × (is_within other others ≡ true) =
    and_parts (among other first) (is_within other others) within in
    elim (or_cases (first == unit) (among others unit) h) [
      | inl here ↦ subst (λ (q : ℕ). among other q ≡ true) (same_by_test first unit here) both.0
      | inr later ↦ among-from_is_within other others unit both.1 later
    ]

pub is_within-from_among : (other set : List ℕ) → ((unit : ℕ) → among set unit ≡ true → among other unit ≡ true)
    → is_within other set ≡ true
is_within-from_among other [] each = refl
is_within-from_among other (first ∷ others) each =
    and_from (among other first) (is_within other others)
    (each first (or_left (first == first) (among others first) (eq-eqb first first refl)))
    (is_within-from_among other others (λ unit h. each unit (or_right (first == unit) (among others unit) h)))
