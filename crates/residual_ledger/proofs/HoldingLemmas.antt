-- Which cut sets hold a unit.
use Rattle.std.proofs.Common.{◌≡◌, ℕ, Bool, ◌&&◌, nat_lt, List, length}
use Rattle.unit_sets.specs.UnitList.{among, IsRising}
use Rattle.residual_ledger.specs.{Residual.cut_at, Holding.holding}
use Rattle.residual_ledger.proofs.Passing.{among-passing, IsRising-passing}

-- the test whether the cut set at a place holds a unit
abbrev pub holds : List (List ℕ) → ℕ → ℕ → Bool
holds cuts unit place = among (cut_at cuts place) unit

pub IsRising-holding : (cuts : List (List ℕ)) (unit : ℕ) → IsRising (holding cuts unit)
IsRising-holding cuts unit = IsRising-passing (holds cuts unit) (length cuts)

pub among-holding : (cuts : List (List ℕ)) (unit place : ℕ)
    → among (holding cuts unit) place ≡ (nat_lt place (length cuts) && among (cut_at cuts place) unit)
among-holding cuts unit place = among-passing (holds cuts unit) (length cuts) place
