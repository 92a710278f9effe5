-- Which units may be out together: with fewer of them out no more cut sets are tight.
use Rattle.std.specs.Prelude.{◌≡◌, ℕ, ◌<◌, ◌^◌, Bool, true, false, List, [], ◌∷◌, Option, Some}
use Rattle.std.specs.Prelude.{is_none, slice_get}
use Rattle.std.specs.List.{position}
use Rattle.std.proofs.Common.{refl, sym, ◌∙◌, arith}
use Rattle.std.proofs.lemmas.List.Quantifiers.{position-Some}
use Rattle.unit_sets.specs.{CutOrder.IsOrderedCuts, UnitList.among}
use Rattle.residual_ledger.specs.{Tight.tight}
use Rattle.residual_ledger.proofs.{LedgerFacts.few_cuts}
use Rattle.margin_policy.proofs.GuardLemmas.{fewer_keep_more}
use Rattle.wave_planner.specs.{Filling.is_free, Waves.IsFree}

-- ---- fewer units out

-- each of some units is one of others
abbrev pub AreAmong : List ℕ → List ℕ → Type 0
AreAmong few many = (unit : ℕ) → among few unit ≡ true → among many unit ≡ true

-- ---- the same by the test

none_first : (numbers : List ℕ) → is_none (slice_get numbers 0) ≡ true → numbers ≡ []
none_first [] none = refl
none_first (number ∷ numbers) none = absurd cc

none_there : (numbers : List ℕ) → numbers ≡ [] → is_none (slice_get numbers 0) ≡ true
none_there numbers none = rw none refl

pub free_by_test : (cuts : List (List ℕ)) (margin : ℕ) (units : List ℕ) → is_free cuts margin units ≡ true
    → IsFree cuts margin units
free_by_test cuts margin units = none_first (tight units margin cuts)

pub test_by_free : (cuts : List (List ℕ)) (margin : ℕ) (units : List ℕ) → IsFree cuts margin units
    → is_free cuts margin units ≡ true
test_by_free cuts margin units = none_there (tight units margin cuts)

pub not_free : (cuts : List (List ℕ)) (margin : ℕ) (units : List ℕ) → is_free cuts margin units ≡ false
    → ¬ IsFree cuts margin units
not_free cuts margin units miss free = cc (miss, test_by_free cuts margin units free)

-- a test that passes fewer units where it passes some
abbrev pub PassesFewer : (List ℕ → Bool) → Type 0
PassesFewer free = (few many : List ℕ) → AreAmong few many → free many ≡ true → free few ≡ true

pub passes_fewer : (cuts : List (List ℕ)) (margin : ℕ) → PassesFewer (is_free cuts margin)
passes_fewer cuts margin few many fewer hit =
    test_by_free cuts margin few (fewer_keep_more cuts margin few many fewer (free_by_test cuts margin many hit))

-- ---- the numbers of cut sets are small

pub few_places : (test : List ℕ → Bool) {cuts : List (List ℕ)} {first : Option ℕ} {place : ℕ} → IsOrderedCuts cuts
    → first ≡ position test cuts → first ≡ Some place → place < 2 ^ 31
few_places test {cuts} {place} ordered is some =
    let found = position-Some test cuts place [] (sym is ∙ some) in
    omega (arith, found.0, few_cuts cuts, ordered.within)
