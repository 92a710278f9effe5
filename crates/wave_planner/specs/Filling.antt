-- How a wave is filled from the units that are left: each goes into it that may be out beside those that went before.
use Rattle.std.specs.Prelude.{ℕ, Bool, List, [], ◌∷◌, slice_get, is_none, if◌then◌else◌}
use Rattle.unit_sets.specs.UnitList.{with_unit}
use Rattle.residual_ledger.specs.Tight.{tight}

-- whether some units may be out together
abbrev pub is_free : List (List ℕ) → ℕ → List ℕ → Bool
is_free cuts margin units = is_none (slice_get (tight units margin cuts) 0)

-- of the units that are left, those that go out beside those that are out, by the test whether units may be out
abbrev pub taken : (List ℕ → Bool) → List ℕ → List ℕ → List ℕ
taken free out [] = []
taken free out (unit ∷ units) =
    if free (unit ∷ out) then unit ∷ taken free (with_unit unit out) units else taken free out units

-- the others
abbrev pub passed : (List ℕ → Bool) → List ℕ → List ℕ → List ℕ
passed free out [] = []
passed free out (unit ∷ units) =
    if free (unit ∷ out) then passed free (with_unit unit out) units else unit ∷ passed free out units

-- the units that are out after one was tried
abbrev pub out_after : (List ℕ → Bool) → List ℕ → ℕ → List ℕ
out_after free out unit = if free (unit ∷ out) then with_unit unit out else out
