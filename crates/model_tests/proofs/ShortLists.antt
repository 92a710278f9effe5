-- Sets of one and of two units, and a list of both.
use Rattle.std.proofs.Common.{◌≡◌, ℕ, ◌<◌, List, [], ◌∷◌, refl, arith}
use Rattle.std.proofs.lemmas.Bool.Decides.{nat_tests}
use Rattle.std.specs.{List.Sorted.IsStrictlySortedBy, Ordering.nat_cmp, declared.cmp.Ordering.TheVariants.Less}
use Rattle.unit_sets.specs.{UnitList.IsRising, CutOrder.IsInCutOrder}

pub one_rises : (a : ℕ) → IsRising (a ∷ [])
unfolding IsStrictlySortedBy
one_rises a = (tt, tt)

less_from_below : (a b : ℕ) → a < b → nat_cmp a b ≡ Less
less_from_below a b h = grind (arith, nat_tests)

pub two_rise : (a b : ℕ) → a < b → IsRising (a ∷ b ∷ [])
unfolding IsStrictlySortedBy
two_rise a b less = ((less_from_below a b less, tt), (tt, tt))

pub first_in_order : (cut : List ℕ) → IsInCutOrder (cut ∷ [])
unfolding IsStrictlySortedBy
first_in_order cut = (tt, tt)

pub one_before_two : (a b : ℕ) → IsInCutOrder ((a ∷ []) ∷ (a ∷ b ∷ []) ∷ [])
unfolding IsStrictlySortedBy
one_before_two a b = ((refl, tt), (tt, tt))
