-- The order in which the nodes of a tree are made.
use Rattle.std.specs.Prelude.{◌≡◌, ℕ, ◌+◌, ◌<◌, ◌≤◌, false, List, All, Contains, length, slice_index_or}
use Rattle.std.specs.List.Sorted.{IsNonDecreasingBy}
use Rattle.fault_definitions.specs.Tree.{FaultTree, IsNodeOf, is_fdep, node_count, rank_of}
use Rattle.fault_definitions.specs.WellFormed.{IsTree}
use Rattle.zdd_build.specs.{declared.places.Place.Place, declared.task.Task.Task, declared.task.Run.Run}

-- the node at a place, where places count from 0
abbrev pub place_at : List Place → ℕ → Place
place_at places k = slice_index_or places k (record { rank = 0; node = 0 })

-- the number of the node at a place
abbrev pub node_at : List Place → ℕ → ℕ
node_at places k = (place_at places k).node

-- a node that has a family, with its rank
pub record IsPlace (tree : FaultTree) (place : Place) : Type 0 where
  pub is_node : IsNodeOf tree place.node
  pub read : is_fdep tree place.node ≡ false
  pub rank : place.rank ≡ rank_of tree place.node

-- exactly the nodes below a number that have a family
pub record HasPlacesTo (tree : FaultTree) (to : ℕ) (places : List Place) : Type 0 where
  pub sound : All (IsPlace tree) places
  pub all : (node : ℕ) → 1 ≤ node → node < to → is_fdep tree node ≡ false
      → Contains places (record { rank = rank_of tree node; node = node })

-- exactly the nodes that have a family
abbrev pub HasPlaces : FaultTree → List Place → Type 0
HasPlaces tree places = HasPlacesTo tree (node_count tree + 1) places

-- the same, by rank, of a tree that keeps the rules of trees
pub record ArePlaces (tree : FaultTree) (places : List Place) : Type 0 where
  pub kept : IsTree tree
  pub has : HasPlaces tree places
  pub sorted : IsNonDecreasingBy (λ place. place.rank) places

-- the nodes at the places from one to another have one rank
abbrev pub IsRunTo : List Place → ℕ → ℕ → Type 0
IsRunTo places from to = (k : ℕ) → from ≤ k → k < to → (place_at places k).rank ≡ (place_at places from).rank

-- the places of a task are those of its tree
abbrev pub IsTask : Task → Type 0
IsTask task = ArePlaces task.tree.now task.places.now

-- a run has places of its task, all of one rank
pub record IsRun (run : Run) : Type 0 where
  pub task : IsTask run.task
  pub some : run.from < run.to
  pub within : run.to ≤ length run.task.places.now
  pub rank : IsRunTo run.task.places.now run.from run.to
