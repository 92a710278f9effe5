-- The tables that a tree is kept in: what each node reads, and the nodes from below.
use Rattle.std.specs.Prelude.{◌≡◌, ℕ, ◌-◌, ◌<◌, List, [], length, take, All, Contains, slice_index, slice_index_or}
use Rattle.fault_definitions.specs.Tree.{FaultTree, IsNodeOf, node_count}
use Rattle.fault_definitions.specs.{Trigger.below, WellFormed.IsTree}

-- every node is in the order, after all that it reads
pub record IsFromBelow (tree : FaultTree) (order : List ℕ) : Type 0 where
  pub nodes : All (IsNodeOf tree) order
  pub all : (node : ℕ) → IsNodeOf tree node → Contains order node
  pub after_below : (k : ℕ) → k < length order → All (Contains (take k order)) (below tree (slice_index order k))

-- what a node reads, by a list for each node from 1 on
abbrev pub below_in : List (List ℕ) → ℕ → List ℕ
below_in lists node = slice_index_or lists (node - 1) []

-- the lists say what each node of the tree reads
pub record HoldsLists (tree : FaultTree) (lists : List (List ℕ)) : Type 0 where
  pub all : length lists ≡ node_count tree
  pub each : (node : ℕ) → IsNodeOf tree node → below_in lists node ≡ below tree node

-- a tree, with what each of its nodes reads and its nodes from below
pub record HoldsTables (tree : FaultTree) (lists : List (List ℕ)) (order : List ℕ) : Type 0 where
  pub kept : IsTree tree
  pub holds_lists : HoldsLists tree lists
  pub from_below : IsFromBelow tree order
