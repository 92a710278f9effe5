-- Families of sets of units: each set is a rising list, and the sets stand in lexicographic order.
use Rattle.std.specs.Prelude.{ℕ, ◌<◌, not, List, [], ◌∷◌, ◌++◌, map, filter}
use Rattle.std.specs.{List.AllByRecursion, List.Sorted.IsStrictlySortedBy, Cmp.Lexicographic.slice_cmp}
use Rattle.std.specs.{Ordering.nat_cmp, declared.cmp.Ordering.Ordering}
use Rattle.unit_sets.specs.UnitList.{among, without_unit, IsRising}

-- the lexicographic order of sets; the empty set is the first
abbrev pub set_cmp : List ℕ → List ℕ → Ordering
set_cmp = slice_cmp nat_cmp

-- a list of sets that is a family: each set rises, and each is before the later ones
pub record IsFamily (sets : List (List ℕ)) : Type 0 where
  pub ordered : IsStrictlySortedBy set_cmp sets
  pub rising : AllByRecursion IsRising sets

-- all units of the set are above x
abbrev pub IsSetAbove : ℕ → List ℕ → Type 0
IsSetAbove x set = AllByRecursion (λ unit. x < unit) set

-- all units of all sets are above x
abbrev pub IsAbove : ℕ → List (List ℕ) → Type 0
IsAbove x family = AllByRecursion (IsSetAbove x) family

-- each set with x, which is below its units, added
abbrev pub each_with : ℕ → List (List ℕ) → List (List ℕ)
each_with x family = map (λ set. x ∷ set) family

-- the sets of lo, and those of hi each with x added; x is below all their units
abbrev pub branch : ℕ → List (List ℕ) → List (List ℕ) → List (List ℕ)
branch x [] hi = each_with x hi
branch x ([] ∷ others) hi = [] ∷ (each_with x hi ++ others)
branch x ((unit ∷ set) ∷ others) hi = each_with x hi ++ (unit ∷ set) ∷ others

-- the least unit of a family's sets, or 0 where they have none: the sets with the least unit come first
abbrev pub first_unit : List (List ℕ) → ℕ
first_unit [] = 0
first_unit ([] ∷ others) = first_unit others
first_unit ((unit ∷ set) ∷ others) = unit

-- the sets without x
abbrev pub sets_without : ℕ → List (List ℕ) → List (List ℕ)
sets_without x family = filter (λ set. not (among set x)) family

-- the sets with x, each with x taken out
abbrev pub sets_with : ℕ → List (List ℕ) → List (List ℕ)
sets_with x family = map (λ set. without_unit x set) (filter (λ set. among set x) family)
