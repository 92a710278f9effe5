-- What finding the cut sets of a tree does to the seat of a store.
use Rattle.std.specs.Prelude.{◌≡◌, ℕ, ◌<◌, List, Option, Some, None}
use Rattle.fault_definitions.specs.{CutFamily.IsCutFamily, Tree.FaultTree}
use Rattle.zdd_families.specs.Nodes.{IsNodeCount}
use Rattle.zdd_shared_table.specs.Seats.{Seated, map_of}
use Rattle.tree_families.specs.Due.{IsDueToTree}
use Rattle.zdd_product.specs.Seats.{KnowsOne, WentAll}
use Rattle.zdd_build.specs.Building.{KnowsCutFamilies}
use Rattle.outage_engine.specs.declared.status.Method.{Method}
use Rattle.outage_engine.specs.declared.status.Method.TheVariants.{Plain, Lists, Diagram}

-- the seat knows the reference as the family of the tree's minimal cuts
abbrev pub IsRootOf : Seated → FaultTree → ℕ → Type 0
IsRootOf seat tree root = KnowsOne (map_of seat) root (IsCutFamily tree tree.top)

-- and it knows a reference of each node other than an `fdep` as the node's cut family
pub record IsDiagramOf (seat : Seated) (tree : FaultTree) (root : ℕ) : Type 0 where
  pub top : IsRootOf seat tree root
  pub nodes : KnowsCutFamilies (map_of seat) tree

-- it knows some reference so
abbrev pub KnowsDiagram : Seated → FaultTree → Type 0
KnowsDiagram seat tree = (root : ℕ) × IsDiagramOf seat tree root

-- the method by which cut sets were found, of a root or of a number of nodes, which only a diagram has
abbrev pub method_by : Option ℕ → Method
method_by (Some number) = Diagram
method_by None = Lists

-- the seat bears out the method by which the cut sets of a tree were found: it knows the diagram, or one of its
-- searches found the store full
abbrev pub IsFoundBy : Seated → Seated → FaultTree → Method → Type 0
IsFoundBy before after tree Diagram = KnowsDiagram after tree
IsFoundBy before after tree Lists = before.fulls < after.fulls
IsFoundBy before after tree Plain = Unit {0}

-- so many nodes has the family of the tree's minimal cuts, where a diagram was made
abbrev pub AreNodesOf : FaultTree → Option ℕ → Type 0
AreNodesOf tree (Some nodes) = (family : List (List ℕ)) × IsCutFamily tree tree.top family × IsNodeCount family nodes
AreNodesOf tree None = Unit {0}

-- what the search for the cut sets of a tree leaves of a seat: it keeps what it knew and its share, and all that it has
-- filled and missed is due to the tree
pub record IsLeftFor (tree : FaultTree) (before after : Seated) : Type 0 where
  pub went : WentAll (IsDueToTree tree) before after
  pub share : after.share ≡ before.share
