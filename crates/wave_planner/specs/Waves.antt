-- First-fit waves: units that are wanted, dealt out to waves, each of which may be out as a whole.
use Rattle.std.specs.Prelude.{◌≡◌, ℕ, ◌+◌, ◌<◌, true, cond, List, [], ◌∷◌, ◌++◌, length, filter, slice_index_or, All}
use Rattle.unit_sets.specs.UnitList.{among}
use Rattle.residual_ledger.specs.Tight.{tight}

-- some units may be out together: no cut set is tight then
abbrev pub IsFree : List (List ℕ) → ℕ → List ℕ → Type 0
IsFree cuts margin units = tight units margin cuts ≡ []

-- the wave at a place, from 0; behind the last one there are no units
abbrev pub wave_at : List (List ℕ) → ℕ → List ℕ
wave_at waves place = slice_index_or waves place []

-- those of some units that stand in a wave, in their order
abbrev pub of_wave : List ℕ → List ℕ → List ℕ
of_wave wave units = filter (among wave) units

-- in how many waves a unit stands
abbrev pub waves_with : List (List ℕ) → ℕ → ℕ
waves_with [] unit = 0
waves_with (wave ∷ waves) unit = cond (among wave unit) 1 0 + waves_with waves unit

-- a wave has wanted units alone, in the order wanted
abbrev pub IsAsWanted : List ℕ → List ℕ → Type 0
IsAsWanted wanted wave = wave ≡ of_wave wave wanted

-- The waves are the first-fit waves of the wanted units: each wanted unit stands in exactly one, none is empty, each
-- has its units in the order wanted, and each may be out as a whole. A unit of a later wave could not have been out
-- beside those units of an earlier wave that are wanted before it.
pub record AreFirstFit (cuts : List (List ℕ)) (margin : ℕ) (wanted : List ℕ) (waves : List (List ℕ)) : Type 0 where
  pub once : (unit : ℕ) → among wanted unit ≡ true → waves_with waves unit ≡ 1
  pub filled : All (λ wave. 0 < length wave) waves
  pub ordered : All (IsAsWanted wanted) waves
  pub free : All (IsFree cuts margin) waves
  pub first : (before rest : List ℕ) (unit earlier later : ℕ) → wanted ≡ before ++ unit ∷ rest → earlier < later
      → among (wave_at waves later) unit ≡ true
      → ¬ IsFree cuts margin (unit ∷ of_wave (wave_at waves earlier) before)
