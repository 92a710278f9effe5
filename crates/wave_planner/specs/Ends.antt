-- Why there are no waves: a unit that may not even be out alone, or want of memory, for which no cause is owed.
use Rattle.std.specs.Prelude.{◌≡◌, ℕ, List, [], ◌∷◌, ◌++◌, slice_get, Some, All}
use Rattle.residual_ledger.specs.Tight.{tight}
use Rattle.wave_planner.specs.{declared.planning.PlanEnd.PlanEnd, declared.planning.Stuck.Stuck, Waves.IsFree}
use Rattle.wave_planner.specs.declared.planning.PlanEnd.TheVariants.{Impossible, NoMemory}

-- each of the units may be out alone
abbrev pub AreFreeAlone : List (List ℕ) → ℕ → List ℕ → Type 0
AreFreeAlone cuts margin units = All (λ unit. IsFree cuts margin (unit ∷ [])) units

-- of the wanted units this is the first that may not be out alone, and the cut set is the first that is tight then
pub record IsFirstStuck (cuts : List (List ℕ)) (margin : ℕ) (wanted : List ℕ) (stuck : Stuck) : Type 0 where
  pub before : List ℕ
  pub behind : List ℕ
  pub split : wanted ≡ before ++ stuck.unit ∷ behind
  pub first : AreFreeAlone cuts margin before
  pub cut : slice_get (tight (stuck.unit ∷ []) margin cuts) 0 ≡ Some stuck.cut

-- why there is no plan: a unit is stuck, this one first, or memory was refused
abbrev pub IsPlanEnd : List (List ℕ) → ℕ → List ℕ → PlanEnd → Type 0
IsPlanEnd cuts margin wanted (Impossible stuck) = IsFirstStuck cuts margin wanted stuck
IsPlanEnd cuts margin wanted NoMemory = Unit {0}
