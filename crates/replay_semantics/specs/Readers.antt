-- By which nodes each node is read.
use Rattle.std.specs.Prelude.{◌≡◌, ◌⊎◌, ℕ, suc, true, List, [], length, All, slice_index_or}
use Rattle.unit_sets.specs.UnitList.{among}
use Rattle.fault_definitions.specs.Tree.{FaultTree, IsNodeOf, node_count}
use Rattle.fault_definitions.specs.Trigger.{below}

-- the nodes that the row of a node lists as its readers; none where it has no row
abbrev pub readers_in : List (List ℕ) → ℕ → List ℕ
readers_in rows node = slice_index_or rows node []

-- a row for each node of the tree, and one for the number 0, with every node that reads it
pub record AreReaders (tree : FaultTree) (rows : List (List ℕ)) : Type 0 where
  pub all : length rows ≡ suc (node_count tree)
  pub nodes : (node : ℕ) → All (IsNodeOf tree) (readers_in rows node)
  pub listed : (node reader : ℕ) → IsNodeOf tree reader → among (below tree reader) node ≡ true
      → among (readers_in rows node) reader ≡ true

-- some nodes have one reader more, if they did not have it; the other rows stay
pub record MoreReaders (rows rows' : List (List ℕ)) (nodes : List ℕ) (reader : ℕ) : Type 0 where
  pub all : length rows' ≡ length rows
  pub added : (node : ℕ) → among nodes node ≡ true → among (readers_in rows' node) reader ≡ true
  pub kept : (node other : ℕ) → among (readers_in rows node) other ≡ true → among (readers_in rows' node) other ≡ true
  pub only : (node other : ℕ) → among (readers_in rows' node) other ≡ true
      → (among (readers_in rows node) other ≡ true) ⊎ (other ≡ reader)
