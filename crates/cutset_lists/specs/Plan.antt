-- Until which place of a tree's order the list of each node is needed.
use Rattle.std.specs.Prelude.{◌≡◌, ℕ, ◌-◌, ◌<◌, ◌≤◌, Bool, List, length, take, All, Contains, slice_index}
use Rattle.fault_definitions.specs.{Tree.FaultTree, Tree.node_count, Trigger.below, Reading.reads}
use Rattle.cutset_lists.specs.Sets.{AreSetsOf}
use Rattle.cutset_lists.specs.Generation.{list_at, reading_of, is_unit_of}

-- the end of a node: the place of the order until which the node's list is needed
abbrev pub until_of : List ℕ → ℕ → ℕ
until_of until node = slice_index until (node - 1)

-- the number is that of a node with an end: from 1 to how many ends there are
abbrev pub HasEnd : List ℕ → ℕ → Type 0
HasEnd until node = (1 ≤ node) × (node ≤ length until)

-- the nodes' ends reach to a place at least; no end falls, and none that lies behind that place has changed
pub record Keeps (nodes : List ℕ) (end : ℕ) (old new : List ℕ) : Type 0 where
  pub all : length new ≡ length old
  pub reached : All (λ node. end ≤ until_of new node) nodes
  pub rises : (node : ℕ) → until_of old node ≤ until_of new node
  pub from_end : (node : ℕ) → end < until_of new node → until_of new node ≡ until_of old node

-- the readers at the places from one on, as far as they are needed, have what they read until after them
abbrev pub AreServedFrom : FaultTree → List ℕ → List ℕ → ℕ → Type 0
AreServedFrom tree order until from =
    (place : ℕ) → from ≤ place → place < length order → place < until_of until (slice_index order place)
    → All (λ node. place < until_of until node) (below tree (slice_index order place))

-- the top event is needed past the end, and each reader that is needed is served
pub record IsPlanFrom (tree : FaultTree) (order until : List ℕ) (from : ℕ) : Type 0 where
  pub all : length until ≡ node_count tree
  pub top : length order < until_of until tree.top
  pub served : AreServedFrom tree order until from

-- a plan for the whole order: the top event is needed past its end, and each reader that is needed is served
abbrev pub IsPlan : FaultTree → List ℕ → List ℕ → Type 0
IsPlan tree order until = IsPlanFrom tree order until 0

-- ---- the lists on the way

-- the lists of nodes that are read no more were given back
pub record Releases (until : List ℕ) (end : ℕ) (old new : List (List (List ℕ))) : Type 0 where
  pub all : length new ≡ length old
  pub others : (node : ℕ) → end < until_of until node → list_at new node ≡ list_at old node
  pub sets : (passes : ℕ → Bool) → All (AreSetsOf passes) old → All (AreSetsOf passes) new

-- the nodes before a place of the order have their lists, as far as those are still needed
pub record IsBuiltTo (tree : FaultTree) (order until : List ℕ) (place : ℕ) (lists : List (List (List ℕ))) : Type 0 where
  pub all : length lists ≡ node_count tree
  pub built : (node : ℕ) → Contains (take place order) node → place < until_of until node → (within : ℕ → Bool)
      → reading_of lists within node ≡ reads tree within node
  pub sets : All (AreSetsOf (is_unit_of tree)) lists
