-- What a replay is seen as: the tree, and the order of the units that have failed.
use Rattle.std.specs.Prelude.{ℕ, List}
use Rattle.fault_definitions.specs.Tree.{FaultTree}

-- a fault tree, and the units that have failed, in the order of their failures
pub record Replayed : Type 0 where
  pub tree : FaultTree
  pub order : List ℕ
