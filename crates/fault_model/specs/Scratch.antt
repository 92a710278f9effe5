-- The readings of nodes in a table by their numbers.
use Rattle.std.specs.Prelude.{◌≡◌, ℕ, suc, ◌<◌, Bool, false, List, length, All, slice_index_or}
use Rattle.fault_definitions.specs.Tree.{FaultTree, node_count}

-- what the table has for a node
abbrev pub value_in : List Bool → ℕ → Bool
value_in values node = slice_index_or values node false

-- the table has a place for each of the nodes
abbrev pub AreIn : List Bool → List ℕ → Type 0
AreIn values nodes = All (λ node. node < length values) nodes

-- so many places are what the tree's nodes take, with the number 0
abbrev pub IsScratchFor : FaultTree → ℕ → Type 0
IsScratchFor tree places = places ≡ suc (node_count tree)
