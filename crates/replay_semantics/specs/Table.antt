-- The steps of nodes in a table by their numbers.
use Rattle.std.specs.Prelude.{◌≡◌, ℕ, suc, ◌<◌, Bool, List, length, is_some, All, slice_index_or}
use Rattle.fault_definitions.specs.Tree.{FaultTree, IsNodeOf, node_count}
use Rattle.fault_definitions.specs.Step.{Step, never, step}

-- what the table has for a node
abbrev pub step_in : List Step → ℕ → Step
step_in steps node = slice_index_or steps node never

-- whether the table has a step for a node, which is to say that the node has failed
abbrev pub has_step : List Step → ℕ → Bool
has_step steps node = is_some (step_in steps node)

-- the table has a place for each of the nodes
abbrev pub AreIn : List Step → List ℕ → Type 0
AreIn steps nodes = All (λ node. node < length steps) nodes

-- the table has a place for each node of the tree, and one for the number 0
abbrev pub IsTableFor : FaultTree → List Step → Type 0
IsTableFor tree steps = length steps ≡ suc (node_count tree)

-- the table has the steps of the tree's nodes under the order
abbrev pub HoldsSteps : FaultTree → List ℕ → List Step → Type 0
HoldsSteps tree order steps = (node : ℕ) → IsNodeOf tree node → step_in steps node ≡ step tree order node
