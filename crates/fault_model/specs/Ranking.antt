-- The ranks that a search finds for the nodes of a tree.
use Rattle.std.specs.Prelude.{◌≡◌, ℕ, ◌-◌, List, length, map}
use Rattle.fault_definitions.specs.{Tree.FaultTree, Tree.node_count, Rank.IsRanked}

-- the places of nodes in a list of all, from 0
abbrev pub places : List ℕ → List ℕ
places nodes = map (λ node. node - 1) nodes

-- the tree with these ranks
abbrev pub with_ranks : FaultTree → List ℕ → FaultTree
with_ranks tree ranks = record {
  names = tree.names;
  kinds = tree.kinds;
  inputs = tree.inputs;
  attributes = tree.attributes;
  top = tree.top;
  ranks = ranks;
}

-- a rank for each node of the tree, one above the highest that the node reads
pub record AreRanks (tree : FaultTree) (ranks : List ℕ) : Type 0 where
  pub all : length ranks ≡ node_count tree
  pub ranked : IsRanked (with_ranks tree ranks)
