-- Where a family is true that is cut at a unit, and one whose units are all above a number.
use Rattle.std.specs.Prelude.{◌≡◌, ℕ, Bool, true, ◌∷◌, ◌&&◌, ◌||◌, nat_lt, List}
use Rattle.std.specs.List.{list_all}
use Rattle.std.proofs.Common.{inl, inr}
use Rattle.std.proofs.lemmas.Bool.{or_cases, or_left, or_right, and_parts, and_from, lt-ltb}
use Rattle.zdd_families.specs.{Family.IsAbove, Family.IsSetAbove, Cuts.Cuts}
use Rattle.zdd_families.proofs.{InclusionLemmas.same_Bool, SetsLemmas.unit_above}
use Rattle.zdd_families.proofs.CutsLemmas.{cut_each, cut_has_lo, cut_has_hi, set_above}
use Rattle.unit_sets.specs.UnitList.{some_within}
use Rattle.zdd_families.proofs.WithinLemmas.{HasWithin, HasWithin-from_test, some_within-from_set, some_within-more}
use Rattle.zdd_families.proofs.WithinLemmas.{passes_at}
use Rattle.zdd_families.proofs.WithinLemmas.{passes_from}

module _ {x : ℕ} {f lo hi : List (List ℕ)} (cut : Cuts x f lo hi) (within : ℕ → Bool) where
  cut_to : some_within f within ≡ true → (some_within lo within || (within x && some_within hi within)) ≡ true
  cut_to t =
      let found : HasWithin f within = HasWithin-from_test f t in
      cut_each (λ q. list_all within q ≡ true → (some_within lo within || (within x && some_within hi within)) ≡ true)
      cut (λ set has passes. or_left _ _ (some_within-from_set _ _ _ has passes))
      (λ rest has passes.
      let both : (within x ≡ true) × (list_all within rest ≡ true) = and_parts _ _ passes in
      or_right _ _ (and_from _ _ both.0 (some_within-from_set _ _ _ has both.1))) found.set found.has found.passes

  cut_from : (some_within lo within || (within x && some_within hi within)) ≡ true → some_within f within ≡ true
  cut_from t =
      elim (or_cases _ _ t) [
        | inl of_lo ↦ some_within-more lo f within (λ set has. cut_has_lo set cut has) of_lo
        | inr of_hi ↦
            let both : (within x ≡ true) × (some_within hi within ≡ true) = and_parts _ _ of_hi in
            let found : HasWithin hi within = HasWithin-from_test hi both.1 in
            some_within-from_set f within (x ∷ found.set) (cut_has_hi _ cut found.has)
            (and_from _ _ both.0 found.passes)
      ]

  -- a family that is cut is true where lo is, and with x where hi is
  pub some_within-cut : some_within f within ≡ (some_within lo within || (within x && some_within hi within))
  some_within-cut = same_Bool _ _ cut_to cut_from

-- of a test what it says above x
abbrev pub above_only : ℕ → (ℕ → Bool) → ℕ → Bool
above_only x within unit = within unit && nat_lt x unit

pub passes_above : (x : ℕ) (within : ℕ → Bool) (set : List ℕ) → IsSetAbove x set → list_all within set ≡ true
    → list_all (above_only x within) set ≡ true
passes_above x within set above passes =
    passes_from (above_only x within) set (λ unit h.
    and_from _ _ (passes_at within set unit passes h)
    (lt-ltb _ _ (unit_above x unit set above h)))

pub passes_anyway : (x : ℕ) (within : ℕ → Bool) (set : List ℕ) → list_all (above_only x within) set ≡ true
    → list_all within set ≡ true
passes_anyway x within set passes =
    passes_from within set (λ unit h. (and_parts _ _ (passes_at (above_only x within) set unit passes h)).0)

-- a family above x asks of no other unit
pub some_within-above : (x : ℕ) (f : List (List ℕ)) (within : ℕ → Bool) → IsAbove x f
    → some_within f (above_only x within) ≡ some_within f within
some_within-above x f within above =
    same_Bool _ _ (λ t. let found : HasWithin f (above_only x within) = HasWithin-from_test f t in
    some_within-from_set _ _ _ found.has (passes_anyway x within found.set found.passes))
    (λ t. let found : HasWithin f within = HasWithin-from_test f t in
    some_within-from_set _ _ _ found.has
    (passes_above x within found.set (set_above _ _ _ above found.has) found.passes))
