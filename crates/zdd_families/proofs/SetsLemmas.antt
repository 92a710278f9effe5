-- What follows from the definitions of `specs/Sets`.
use Rattle.std.specs.Prelude.{◌≡◌, ℕ, ◌<◌, true, ◌==◌, ◌||◌, List, [], ◌∷◌}
use Rattle.std.specs.{List.AllByRecursion, List.Sorted.IsStrictlySortedBy, Ordering.nat_cmp}
use Rattle.std.specs.{declared.cmp.Ordering.TheVariants.Less}
use Rattle.std.proofs.Common.{refl, sym, ◌∙◌, ap, subst, inl, inr, arith, eq-eqb}
use Rattle.std.proofs.lemmas.Bool.{or_cases, or_left, or_right, eqb-true}
use Rattle.std.proofs.lemmas.Bool.Decides.{nat_tests}
use Rattle.unit_sets.specs.UnitList.{among, IsRising}
use Rattle.unit_sets.proofs.UnitListLemmas.{among-with_unit, IsRising-with_unit, same_set}
use Rattle.zdd_families.specs.{Family.IsSetAbove, Sets.joined}

pub among-joined : (a b : List ℕ) (unit : ℕ) → among (joined a b) unit ≡ (among a unit || among b unit)
among-joined [] b unit = refl
among-joined (first ∷ a) b unit =
    let e = among-with_unit first (joined a b) unit in let e' = among-joined a b unit in grind (arith, e, e')

pub IsRising-joined : (a b : List ℕ) → IsRising b → IsRising (joined a b)
IsRising-joined [] b s = s
IsRising-joined (first ∷ a) b s = IsRising-with_unit first (joined a b) (IsRising-joined a b s)

-- ---- what is above x

pub unit_above : (x unit : ℕ) (set : List ℕ) → IsSetAbove x set → among set unit ≡ true → x < unit
unit_above x unit [] above h = absurd cc
unit_above x unit (first ∷ set) above h =
    elim (or_cases _ _ h) [
      | inl here ↦ subst (λ q. x < q) (eqb-true _ _ here) above.0
      | inr later ↦ unit_above x unit set above.1 later
    ]

pub above_from_among : (x : ℕ) (set : List ℕ) → ((unit : ℕ) → among set unit ≡ true → x < unit) → IsSetAbove x set
above_from_among x [] each = tt
above_from_among x (first ∷ set) each = (
  each first (or_left _ _ (eq-eqb first first refl)),
  above_from_among x set (λ unit h. each unit (or_right _ _ h)),
)

pub IsSetAbove-joined : (x : ℕ) (a b : List ℕ) → IsSetAbove x a → IsSetAbove x b → IsSetAbove x (joined a b)
IsSetAbove-joined x a b above above' =
    above_from_among x (joined a b) (λ unit h.
    elim (or_cases _ _ (sym (among-joined a b unit) ∙ h)) [
      | inl of_a ↦ unit_above x unit a above of_a
      | inr of_b ↦ unit_above x unit b above' of_b
    ])

less_each : (x : ℕ) (set : List ℕ) → IsSetAbove x set → AllByRecursion (λ y. nat_cmp x y ≡ Less) set
less_each x [] above = tt
less_each x (first ∷ set) above = (let k = above.0 in grind (arith, nat_tests), less_each x set above.1)

pub IsRising-with_first : (x : ℕ) (set : List ℕ) → IsSetAbove x set → IsRising set → IsRising (x ∷ set)
unfolding IsStrictlySortedBy
IsRising-with_first x set above s = (less_each x set above, s)

-- the units above x of a set that begins with x
pub IsRising-rest : (x : ℕ) (set : List ℕ) → IsRising (x ∷ set) → IsRising set
unfolding IsStrictlySortedBy
IsRising-rest x set s = s.1

-- ---- the union of sets of which one or both have x, below all other units

module _ (x : ℕ) (a b : List ℕ) (above : IsSetAbove x a) (above' : IsSetAbove x b) (s : IsRising b) where
  rises : IsRising (x ∷ joined a b)
  rises = IsRising-with_first x (joined a b) (IsSetAbove-joined x a b above above') (IsRising-joined a b s)

  -- by the units that either has
  with_x : (a' b' : List ℕ) → IsRising b' → ((unit : ℕ) → (among a' unit || among b' unit)
      ≡ ((x == unit) || (among a unit || among b unit))) → joined a' b' ≡ x ∷ joined a b
  with_x a' b' s' same =
      same_set _ _ (IsRising-joined a' b' s') rises
      (λ unit. among-joined a' b' unit ∙ same unit ∙ ap (λ q. (x == unit) || q) (sym (among-joined a b unit)))

  pub joined-left : joined (x ∷ a) b ≡ x ∷ joined a b
  joined-left = with_x (x ∷ a) b s (λ unit. grind arith)

  pub joined-right : joined a (x ∷ b) ≡ x ∷ joined a b
  joined-right = with_x a (x ∷ b) (IsRising-with_first x b above' s) (λ unit. grind arith)

  pub joined-both : joined (x ∷ a) (x ∷ b) ≡ x ∷ joined a b
  joined-both = with_x (x ∷ a) (x ∷ b) (IsRising-with_first x b above' s) (λ unit. grind arith)

nil_rises : IsRising []
unfolding IsStrictlySortedBy
nil_rises = tt

pub joined-nil : (a : List ℕ) → IsRising a → joined a [] ≡ a
joined-nil a s =
    same_set _ _ (IsRising-joined a [] nil_rises) s
    (λ unit. among-joined a [] unit ∙ grind arith)
