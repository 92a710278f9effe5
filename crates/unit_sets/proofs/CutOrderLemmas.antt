-- What follows from the definitions of `specs/CutOrder`.
use Rattle.std.specs.Prelude.{ℕ, suc, ◌+◌, ◌≡◌, ◌<◌, ◌≤◌, List, [], ◌∷◌, ◌++◌, length, slice_get, sum_by, Some, All}
use Rattle.std.specs.{List.AllByRecursion, List.flat_map, List.Sorted.IsStrictlySortedBy, Cmp.Lexicographic.slice_cmp}
use Rattle.std.specs.{Ordering.nat_cmp, Ordering.ordering_then, declared.cmp.Ordering.Ordering}
use Rattle.std.specs.{FinMap.slice_cmp-IsAntisymmetric, FinMap.nat_cmp-IsAntisymmetric}
use Rattle.std.specs.declared.cmp.Ordering.TheVariants.{Less, Equal, Greater}
use Rattle.std.proofs.Common.{refl, arith}
use Rattle.std.proofs.lemmas.List.Elements.{All-nil, All-append, All-from_recursion, recursion_from_All}
use Rattle.std.proofs.lemmas.List.Sums.{sum_by-cons, sum_by-append}
use Rattle.unit_sets.proofs.Sorted.{All-slice_get}
use Rattle.unit_sets.specs.CutOrder.{IsCutSet, IsInCutOrder, IsOrderedCuts, cut_cmp, weight, weight_limit}
use Rattle.unit_sets.specs.{Unit.IsUnit, UnitList.IsRising}

second_ties : (first second : Ordering) → ordering_then first second ≡ Equal → second ≡ Equal
second_ties Less second h = absurd cc
second_ties Equal second h = h
second_ties Greater second h = absurd cc

-- only equal sets tie
pub cut_cmp-same : (x y : List ℕ) → cut_cmp x y ≡ Equal → x ≡ y
cut_cmp-same x y h =
    slice_cmp-IsAntisymmetric nat_cmp-IsAntisymmetric x y
    (second_ties (nat_cmp (length x) (length y)) (slice_cmp nat_cmp x y) h)

-- ---- what a layer above needs of a list that it copies, or fills from a list in order

one_more : {all : ℕ} (part : ℕ) {rest : ℕ} (count items : ℕ) {total : ℕ} → all ≡ (1 + part) + rest
    → total ≡ part + items → rest ≡ count + items
    → all ≡ suc count + total
one_more part count items a b c = omega arith

-- a list weighs as much as it has sets and members
pub weight-counts : (cuts : List (List ℕ)) → weight cuts ≡ length cuts + sum_by length cuts
weight-counts [] = refl
weight-counts (cut ∷ cuts) =
    one_more (length cut) (length cuts) (sum_by length cuts) (sum_by-cons (λ (c : List ℕ). 1 + length c) cut cuts)
    (sum_by-cons length cut cuts)
    (weight-counts cuts)

-- no sets
pub IsOrderedCuts-nil : IsOrderedCuts []
unfolding IsStrictlySortedBy
IsOrderedCuts-nil = record { sets = All-nil IsCutSet; ordered = tt; within = omega arith }

-- each set of a list is one that a list may have
pub cut_at : (cuts : List (List ℕ)) (i : ℕ) (cut : List ℕ) → IsOrderedCuts cuts → slice_get cuts i ≡ Some cut
    → IsCutSet cut
cut_at cuts i cut ordered at = All-slice_get IsCutSet cuts i cut ordered.sets at

-- ---- sets behind those of a list

each_left : {K : Type 0} (P : K → Type 0) (xs ys : List K) → AllByRecursion P (xs ++ ys) → AllByRecursion P xs
each_left P [] ys all = tt
each_left P (x ∷ xs) ys all = (all.0, each_left P xs ys all.1)

each_right : {K : Type 0} (P : K → Type 0) (xs ys : List K) → AllByRecursion P (xs ++ ys) → AllByRecursion P ys
each_right P [] ys all = all
each_right P (x ∷ xs) ys all = each_right P xs ys all.1

-- filled and rising sets of units are sets that a list may have
cut_sets : (sets : List (List ℕ)) → AllByRecursion (λ set. 0 < length set) sets → AllByRecursion IsRising sets
    → AllByRecursion IsUnit (flat_map (λ set. set) sets) → AllByRecursion IsCutSet sets
cut_sets [] filled rising units = tt
cut_sets (set ∷ sets) filled rising units = (
  record {
    filled = filled.0;
    rising = rising.0;
    units = All-from_recursion IsUnit set (each_left IsUnit set (flat_map (λ (s : List ℕ). s) sets) units);
  },
  cut_sets sets filled.1 rising.1 (each_right IsUnit set (flat_map (λ (s : List ℕ). s) sets) units),
)

pub IsOrderedCuts-append : (cuts sets : List (List ℕ)) → IsOrderedCuts cuts → All (λ set. 0 < length set) sets
    → All IsRising sets → All IsUnit (flat_map (λ set. set) sets) →
    IsInCutOrder (cuts ++ sets) → weight (cuts ++ sets) ≤ weight_limit → IsOrderedCuts (cuts ++ sets)
IsOrderedCuts-append cuts sets before filled rising units ordered within = record {
  sets =
      All-append IsCutSet cuts sets before.sets
      (All-from_recursion IsCutSet sets (cut_sets sets
      (recursion_from_All (λ (set : List ℕ). 0 < length set) sets filled) (recursion_from_All IsRising sets rising)
      (recursion_from_All IsUnit (flat_map (λ (set : List ℕ). set) sets) units)));
  ordered = ordered;
  within = within;
}

pub weight-with : (cuts sets : List (List ℕ)) → weight (cuts ++ sets) ≡ weight cuts + (length sets + sum_by length sets)
weight-with cuts sets =
    let both = sum_by-append (λ (cut : List ℕ). 1 + length cut) cuts sets in
    let counted = weight-counts sets in
    omega (arith, both, counted)
