-- What is known while the nodes of a tree are made.
use Rattle.std.specs.Prelude.{◌≡◌, ℕ, ◌<◌, ◌≤◌, Bool, true, false, List, length, Option, None, slice_index_or}
use Rattle.fault_definitions.specs.CutFamily.{IsCutFamily}
use Rattle.fault_definitions.specs.Tree.{FaultTree, IsNodeOf, is_fdep, node_count}
use Rattle.zdd_product.specs.Seats.{KnowsOne}
use Rattle.zdd_nodes.specs.Reading.{reference_of, KnowsBelow}
use Rattle.zdd_build.specs.{declared.places.Place.Place, declared.table.Table.Table, declared.task.Run.Run}
use Rattle.zdd_build.specs.{declared.task.Task.Task, Places.IsRun, Places.node_at}

-- the map knows some reference as such a family
pub record KnowsSome (known : ℕ → ℕ) (is : List (List ℕ) → Type 0) : Type 0 where
  pub reference : ℕ
  pub stands : KnowsOne known reference is

-- the map knows a reference of each node of the tree other than an `fdep` as the node's cut family
abbrev pub KnowsCutFamilies : (ℕ → ℕ) → FaultTree → Type 0
KnowsCutFamilies known tree =
    (node : ℕ) → IsNodeOf tree node → is_fdep tree node ≡ false → KnowsSome known (IsCutFamily tree node)

-- of a list with a reference for each node, that of one node is known as its cut family
abbrev pub HasFamily : (ℕ → ℕ) → FaultTree → List ℕ → ℕ → Type 0
HasFamily known tree references node = KnowsOne known (reference_of references node) (IsCutFamily tree node)

-- whether the node at a place is made
abbrev pub is_made : List Bool → ℕ → Bool
is_made made k = slice_index_or made k false

-- the references of all nodes that are made, and of each `fdep`, are known as their cut families
pub record AreBuilt (known : ℕ → ℕ) (task : Task) (table : Table) : Type 0 where
  pub all_nodes : length table.references.items ≡ node_count task.tree.now
  pub all_places : length table.made.items ≡ length task.places.now
  pub each : (k : ℕ) → k < length task.places.now → is_made table.made.items k ≡ true
      → HasFamily known task.tree.now table.references.items (node_at task.places.now k)
  pub fdeps : (node : ℕ) → IsNodeOf task.tree.now node → is_fdep task.tree.now node ≡ true
      → HasFamily known task.tree.now table.references.items node

-- all nodes below a place are made
abbrev pub AreMadeTo : List Bool → ℕ → Type 0
AreMadeTo made to = (k : ℕ) → k < to → is_made made k ≡ true

-- a table has room for each place, and for the node there
pub record HasRoomFor (places : List Place) (table : Table) : Type 0 where
  pub all_places : length places ≤ length table.made.items
  pub low : (k : ℕ) → k < length places → 1 ≤ node_at places k
  pub high : (k : ℕ) → k < length places → node_at places k ≤ length table.references.items

-- all nodes below a place are made, and whatever is made is known
pub record IsBuiltTo (known : ℕ → ℕ) (task : Task) (table : Table) (to : ℕ) : Type 0 where
  pub built : AreBuilt known task table
  pub made : AreMadeTo table.made.items to

-- a node that has a family, and whatever it reads is known by the references of a list
pub record CanRead (known : ℕ → ℕ) (tree : FaultTree) (references : List ℕ) (node : ℕ) : Type 0 where
  pub is_node : IsNodeOf tree node
  pub read : is_fdep tree node ≡ false
  pub all : node_count tree ≤ length references
  pub below : KnowsBelow known tree references node

-- whatever the nodes of a run read is known
pub record CanMake (known : ℕ → ℕ) (run : Run) (references : List ℕ) : Type 0 where
  pub is_run : IsRun run
  pub reads : (k : ℕ) → run.from ≤ k → k < run.to
      → CanRead known run.task.tree.now references (node_at run.task.places.now k)

-- a worker stops at a place of the run, or where it ends; without a limit it stops there alone
pub record IsStop (run : Run) (limit : Option ℕ) (place : ℕ) : Type 0 where
  pub low : run.from ≤ place
  pub high : place ≤ run.to
  pub all : limit ≡ None → place ≡ run.to
