-- Orders of the units of a tree, listed for each of its cut sets.
use Rattle.std.specs.Prelude.{◌≡◌, ℕ, List, [], length}
use Rattle.std.specs.Prelude.{All, Option, unwrap_or}
use Rattle.fault_definitions.specs.Tree.{FaultTree, IsUnitOf}

-- the orders of a cut set, where they are listed, are orders of units of the tree
abbrev pub AreOfUnits : FaultTree → Option (List (List ℕ)) → Type 0
AreOfUnits tree orders = All (All (IsUnitOf tree)) (unwrap_or orders [])

-- each cut set has its orders or is not listed, and the orders are of units of the tree
pub record AreOrdersOf (tree : FaultTree) (cuts : List (List ℕ)) (lists : List (Option (List (List ℕ)))) : Type 0 where
  pub each : length lists ≡ length cuts
  pub units : All (AreOfUnits tree) lists
