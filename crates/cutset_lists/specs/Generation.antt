-- Lists of sets that stand for the nodes of a tree.
use Rattle.std.specs.Prelude.{◌≡◌, ℕ, ◌-◌, ◌<◌, ◌≤◌, Bool, ◌&&◌, ◌||◌, nat_le, List, [], length, All, slice_index_or}
use Rattle.std.specs.List.{list_any, list_all}
use Rattle.unit_sets.specs.{CutOrder.weight, CutOrder.weight_limit, UnitList.some_within}
use Rattle.fault_words.specs.declared.kind.GateKind.{GateKind}
use Rattle.fault_definitions.specs.{Tree.FaultTree, Tree.unit_count, Cut.IsCutList}
use Rattle.fault_definitions.specs.Reading.{true_count, gate_reads, node_reads, reads}
use Rattle.cutset_lists.specs.Sets.{AreSetsOf}

-- the tree has a cut list, and it weighs more than a list may
abbrev pub HasHeavyCutList : FaultTree → Type 0
HasHeavyCutList tree = (cuts : List (List ℕ)) × IsCutList tree cuts × (weight_limit < weight cuts)

-- ---- a list for each node, from 1 on

-- the list of a node, by the node's number from 1; the empty list for a number above all lists
abbrev pub list_at : List (List (List ℕ)) → ℕ → List (List ℕ)
list_at lists node = slice_index_or lists (node - 1) []

-- the number is that of a node with a list: from 1 to how many lists there are
abbrev pub HasList : List (List (List ℕ)) → ℕ → Type 0
HasList lists node = (1 ≤ node) × (node ≤ length lists)

-- the nodes have lists, and a list that is to be made of these has no set yet
pub record StartsFrom (lists : List (List (List ℕ))) (nodes : List ℕ) (made : List (List ℕ)) : Type 0 where
  pub have : All (HasList lists) nodes
  pub none : made ≡ []

-- the reading that the lists stand for
abbrev pub reading_of : List (List (List ℕ)) → (ℕ → Bool) → ℕ → Bool
reading_of lists within node = some_within (list_at lists node) within

-- a list is true where a rule says so, from what is within and from the readings of the nodes
pub record Follows (lists : List (List (List ℕ))) (rule : (ℕ → Bool) → (ℕ → Bool) → Bool)
    (made : List (List ℕ)) : Type 0 where
  pub some_within : (within : ℕ → Bool) → some_within made within ≡ rule within (reading_of lists within)
  pub sets : (passes : ℕ → Bool) → All (AreSetsOf passes) lists → AreSetsOf passes made

-- the rules of nodes
-- all of these nodes read true
abbrev pub each_rule : List ℕ → (ℕ → Bool) → (ℕ → Bool) → Bool
each_rule nodes within reading = list_all reading nodes

-- so many positions of these nodes read true, or more
abbrev pub at_least_rule : ℕ → List ℕ → (ℕ → Bool) → (ℕ → Bool) → Bool
at_least_rule least nodes within reading = nat_le least (true_count reading nodes)

-- a gate of this kind fails in the static reading, by the readings of its inputs
abbrev pub gate_rule : GateKind → List ℕ → (ℕ → Bool) → (ℕ → Bool) → Bool
gate_rule kind inputs within reading = gate_reads kind reading inputs

-- a list is now also true where some node's list is
pub record AddsSome (lists : List (List (List ℕ))) (nodes : List ℕ) (old new : List (List ℕ)) : Type 0 where
  pub some_within : (within : ℕ → Bool) → some_within new within
      ≡ (some_within old within || list_any (reading_of lists within) nodes)
  pub sets : (passes : ℕ → Bool) → All (AreSetsOf passes) lists → AreSetsOf passes old → AreSetsOf passes new

-- ---- the tree

-- whether a number is that of a unit of the tree, from 1 to how many units it has
abbrev pub is_unit_of : FaultTree → ℕ → Bool
is_unit_of tree unit = nat_le 1 unit && nat_le unit (unit_count tree)

-- a node's list is true where the node fails by the readings of the lists, and has sets of units of the tree where they
-- do
pub record IsNodeList (tree : FaultTree) (lists : List (List (List ℕ))) (node : ℕ) (made : List (List ℕ)) : Type 0 where
  pub some_within : (within : ℕ → Bool) → some_within made within
      ≡ node_reads tree within (reading_of lists within) node
  pub sets : All (AreSetsOf (is_unit_of tree)) lists → AreSetsOf (is_unit_of tree) made

-- the list is true exactly where the node fails, and has sets of units of the tree
pub record Generates (tree : FaultTree) (node : ℕ) (made : List (List ℕ)) : Type 0 where
  pub some_within : (within : ℕ → Bool) → some_within made within ≡ reads tree within node
  pub sets : AreSetsOf (is_unit_of tree) made
