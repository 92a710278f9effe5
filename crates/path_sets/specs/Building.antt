-- What is known while the path families of the nodes of a tree are made.
use Rattle.std.specs.Prelude.{◌≡◌, ◌≢◌, ℕ, ◌≤◌, false, List, All, length}
use Rattle.fault_definitions.specs.{Trigger.below, Tree.FaultTree, Tree.IsNodeOf, Tree.is_fdep}
use Rattle.zdd_shared_table.specs.Seats.{Seated, map_of}
use Rattle.zdd_product.specs.Seats.{KnowsOne, WentOn}
use Rattle.zdd_nodes.specs.Reading.{reference_of}
use Rattle.path_sets.specs.{Due.IsDueToPaths, Paths.IsPathFamily}

-- of a list with a reference for each node, that of one node is known as its path family
abbrev pub HasPaths : (ℕ → ℕ) → FaultTree → List ℕ → ℕ → Type 0
HasPaths known tree references node = KnowsOne known (reference_of references node) (IsPathFamily tree node)

-- so is that of each node that this one reads
abbrev pub HasPathsBelow : (ℕ → ℕ) → FaultTree → List ℕ → ℕ → Type 0
HasPathsBelow known tree references node = All (HasPaths known tree references) (below tree node)

-- so is that of each node of the tree that is no `fdep`
abbrev pub HasAllPaths : (ℕ → ℕ) → FaultTree → List ℕ → Type 0
HasAllPaths known tree references =
    (node : ℕ) → IsNodeOf tree node → is_fdep tree node ≡ false → HasPaths known tree references node

-- The path family of one node was made, unless it is an `fdep`, and its reference put to those of the others. No search
-- found the store full.
pub record HasMade (tree : FaultTree) (node : ℕ) (before after : Seated) (old new : List ℕ) : Type 0 where
  pub on : WentOn (IsDueToPaths tree) before after
  pub made : is_fdep tree node ≡ false → HasPaths (map_of after) tree new node
  pub others : (other : ℕ) → 1 ≤ other → other ≢ node → reference_of new other ≡ reference_of old other
  pub size : length new ≡ length old
