-- A ledger as its callers see it, and what it keeps.
use Rattle.std.specs.Prelude.{◌≡◌, ℕ, ◌≤◌, ◌<◌, Bool, true, false, List}
use Rattle.unit_sets.specs.{CutOrder.IsOrderedCuts, Unit.most_units, UnitList.among}
use Rattle.residual_ledger.specs.{Residual.cut_at, Residual.HasUnitsUpTo, Holding.HasRows, Kept.residuals}
use Rattle.residual_ledger.specs.{Kept.HasLowest}

-- how many units there are, the cut sets, and the rising list of the units that are out
pub record LedgerView : Type 0 where
  pub units : ℕ
  pub cuts : List (List ℕ)
  pub out : List ℕ

-- the units up to a number are all that there are, and there are no more than a unit's number allows
pub record IsLedgerFor (units : ℕ) (cuts : List (List ℕ)) : Type 0 where
  pub limit : units ≤ most_units
  pub ordered : IsOrderedCuts cuts
  pub known : HasUnitsUpTo units cuts

-- what the rows of a ledger keep
pub record KeepsLedger (units : ℕ) (cuts : List (List ℕ)) (out counts least lowest ends rows : List ℕ) : Type 0 where
  pub whole : IsLedgerFor units cuts
  pub counted : counts ≡ residuals out cuts
  pub blocks : HasLowest counts least lowest
  pub rows_of_units : HasRows units cuts ends rows

-- the first of the cut sets with a unit that stand before a place and pass a test, or that place
pub record IsFirstHolding (unit : ℕ) (test : List ℕ → Bool) (cuts : List (List ℕ)) (end first : ℕ) : Type 0 where
  pub inside : first ≤ end
  pub before : (place : ℕ) → place < first → among (cut_at cuts place) unit ≡ true → test (cut_at cuts place) ≡ false
  pub here : first < end → test (cut_at cuts first) ≡ true
