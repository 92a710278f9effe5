-- What the tests need of lists that they make.
use Rattle.std.proofs.Common.{◌≡◌, ℕ, suc, ◌+◌, ◌<◌, ◌≤◌, true, List, [], ◌∷◌, ◌++◌, length, get_or}
use Rattle.std.proofs.Common.{slice_get, Some, refl, sym, arith, inl, inr, length-append}
use Rattle.std.specs.{Ordering.nat_cmp, Ordering.is_lt, List.Sorted.IsStrictlySortedBy, declared.cmp.Ordering.Ordering}
use Rattle.std.specs.declared.cmp.Ordering.TheVariants.{Less, Equal, Greater}
use Rattle.std.proofs.{lemmas.Bool.cases_eq, lemmas.Bool.Decides.nat_tests, lemmas.Cmp.nat_cmp_total}
use Rattle.std.proofs.{lemmas.List.get_or_append_left, lemmas.List.get_or_push, lemmas.Map.Keys.Less-from_sorted}
use Rattle.std.proofs.{lemmas.Map.Keys.sorted_from_all_adjacent, lemmas.Option.get_or_from_slice_get}
use Rattle.unit_sets.specs.{CutOrder.cut_cmp, CutOrder.cut_cmp_total, CutOrder.IsInCutOrder, UnitList.IsRising}

-- the units before a place rise
pub record RisesSoFar (units : List ℕ) (i : ℕ) : Type 0 where
  pub below : (k : ℕ) → k + 1 < i → get_or units k 0 < get_or units (k + 1) 0

less_from : (a b : ℕ) → a < b → nat_cmp a b ≡ Less
less_from a b h = grind (arith, nat_tests)

pub rises-all : {units : List ℕ} {i : ℕ} → length units ≤ i → RisesSoFar units i → IsRising units
rises-all {units} full was =
    sorted_from_all_adjacent nat_cmp_total units 0
    (λ k h. less_from (get_or units k 0) (get_or units (k + 1) 0) (was.below k (omega arith)))

-- the first set of all, and one after the last
pub first_set : (set : List ℕ) → IsInCutOrder (set ∷ [])
unfolding IsStrictlySortedBy
first_set set = (tt, tt)

pub next_set : (cuts : List (List ℕ)) (last set : List ℕ) (place : ℕ) → length cuts ≡ suc place
    → slice_get cuts place ≡ Some last → IsInCutOrder cuts → cut_cmp last set ≡ Less → IsInCutOrder (cuts ++ set ∷ [])
next_set cuts last set place long at ordered less =
    sorted_from_all_adjacent cut_cmp_total (cuts ++ set ∷ []) []
    (λ k h.
    let within : k + 1 < length cuts + 1 = omega (arith, h, length-append cuts (set ∷ [])) in
    let inside : k < length cuts = omega arith in
    let front : get_or (cuts ++ set ∷ []) k [] ≡ get_or cuts k [] = get_or_append_left cuts (set ∷ []) [] k inside in
    elim (cases_eq (k + 1) (length cuts)) [
      | inl end ↦
          let is_place : k ≡ place = omega arith in
          let here : get_or cuts k [] ≡ last = rw is_place (get_or_from_slice_get cuts place last [] at) in
          rw (front, here, get_or_push cuts set [] (k + 1) (sym end)) less
      | inr earlier ↦
          rw (front, get_or_append_left cuts (set ∷ []) [] (k + 1) (omega arith))
          (Less-from_sorted cut_cmp cuts k (k + 1) [] ordered (omega arith) (omega arith))
    ])

pub is_empty : (cuts : List (List ℕ)) → length cuts ≡ 0 → cuts ≡ []
is_empty [] none = refl
is_empty (cut ∷ cuts) none = absurd (omega arith)

pub is_less : (order : Ordering) → is_lt order ≡ true → order ≡ Less
is_less Less less = refl
is_less Equal less = absurd cc
is_less Greater less = absurd cc
