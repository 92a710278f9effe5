-- Lists of cut sets: by size, then lexicographically by unit numbers.
use Rattle.std.specs.Prelude.{ℕ, ◌+◌, ◌<◌, ◌≤◌, List, length, All, sum_by}
use Rattle.std.specs.{Cmp.IsTotalOrder, Cmp.Lexicographic.slice_cmp, List.Sorted.IsStrictlySortedBy}
use Rattle.std.specs.{declared.cmp.Ordering.Ordering}
use Rattle.std.specs.Ordering.{nat_cmp, on, then_cmp}
use Rattle.std.proofs.lemmas.Cmp.{nat_cmp_total, nat_list_cmp_total, on_total, then_total}
use Rattle.unit_sets.specs.{declared.cut_list.TheConstants.CutList.WEIGHT_LIMIT, Unit.IsUnit, UnitList.IsRising}

-- the smaller set first, and of two sets of one size the lexicographically smaller
abbrev pub cut_cmp : List ℕ → List ℕ → Ordering
cut_cmp = then_cmp (on length nat_cmp) (slice_cmp nat_cmp)

-- any two sets are ordered, and the order is transitive
pub cut_cmp_total : IsTotalOrder cut_cmp
cut_cmp_total = then_total (on_total length nat_cmp_total) nat_list_cmp_total

-- each set is below those after it
abbrev pub IsInCutOrder : List (List ℕ) → Type 0
IsInCutOrder cuts = IsStrictlySortedBy cut_cmp cuts

-- what a list of cut sets weighs: 1 for each set and 1 for each member
abbrev pub weight : List (List ℕ) → ℕ
weight cuts = sum_by (λ cut. 1 + length cut) cuts

-- the most that a list may weigh
abbrev pub weight_limit : ℕ
weight_limit = WEIGHT_LIMIT

-- a set that a list may have: some units, each once, in rising order
pub record IsCutSet (cut : List ℕ) : Type 0 where
  pub filled : 0 < length cut
  pub rising : IsRising cut
  pub units : All IsUnit cut

-- a list that a `CutList` may hold
pub record IsOrderedCuts (cuts : List (List ℕ)) : Type 0 where
  pub sets : All IsCutSet cuts
  pub ordered : IsInCutOrder cuts
  pub within : weight cuts ≤ weight_limit
