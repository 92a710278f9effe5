-- How a failure spreads to all that reads a failed node, and what has been reached on the way.
use Rattle.std.specs.Prelude.{◌≡◌, ◌⊎◌, ℕ, ◌≤◌, Bool, true, false, ◌||◌, List, length, take, drop, is_some, All}
use Rattle.std.specs.Prelude.{if◌then◌else◌, vec_capacity}
use Rattle.std.specs.List.{list_any}
use Rattle.unit_sets.specs.UnitList.{among}
use Rattle.fault_model.specs.Order.{AreDistinct}
use Rattle.fault_definitions.specs.Tree.{FaultTree, IsNodeOf, is_above_units, node_count}
use Rattle.fault_definitions.specs.Trigger.{below}
use Rattle.fault_definitions.specs.Step.{Step, never, place, node_step}
use Rattle.replay_semantics.specs.{declared.failures.Failures.Failures, Growth.AllGrow}
use Rattle.replay_semantics.specs.Table.{step_in, has_step, IsTableFor, HoldsSteps}

-- the nodes that have failed, one after another: each is a node with a step, and stands once. The number 0 has no step.
pub record AreFailed (tree : FaultTree) (steps : List Step) (log : List ℕ) : Type 0 where
  pub table : IsTableFor tree steps
  pub spare : step_in steps 0 ≡ never
  pub nodes : All (IsNodeOf tree) log
  pub distinct : AreDistinct log
  pub failed : All (λ node. has_step steps node ≡ true) log

-- the same of failures in a tree, which have room for each node's
pub record CanFail (tree : FaultTree) (failures : Failures) : Type 0 where
  pub kept : AreFailed tree failures.steps.items failures.log.items
  pub room : node_count tree ≤ vec_capacity failures.log

-- none or more nodes have failed besides
pub record HaveMore (tree : FaultTree) (before after : Failures) : Type 0 where
  pub can : CanFail tree after
  pub longer : length before.log.items ≤ length after.log.items

-- the steps without those of some nodes
abbrev pub step_without : List ℕ → List Step → ℕ → Step
step_without nodes steps node = if among nodes node then never else step_in steps node

-- the node reads one of some nodes
abbrev pub reads_some : FaultTree → List ℕ → ℕ → Bool
reads_some tree nodes node = list_any (among (below tree node)) nodes

-- One unit more fails: the order before and after it, its place, and the steps and the failed nodes before it.
pub record Turn : Type 0 where
  pub order : List ℕ
  pub longer : List ℕ
  pub last : ℕ
  pub before : List Step
  pub front : List ℕ

-- the steps on the way: `todo` and what reads a failed node from `next` on are still to be looked at
pub record IsSpreading (tree : FaultTree) (turn : Turn) (steps : List Step) (log : List ℕ) (todo : List ℕ)
    (next : ℕ) : Type 0 where
  pub places : AllGrow turn.last (place turn.order) (place turn.longer)
  pub settled : (node : ℕ) → IsNodeOf tree node
      → step_in turn.before node ≡ node_step tree turn.order (step_in turn.before) node
  pub low : length turn.front ≤ next
  pub high : next ≤ length log
  pub front : take (length turn.front) log ≡ turn.front
  pub grown : AllGrow turn.last (step_in turn.before) (step_in steps)
  pub undone : (node : ℕ) → step_without (drop (length turn.front) log) steps node ≡ step_in turn.before node
  -- every unit of the order has a step
  pub placed : (node : ℕ) → IsNodeOf tree node → is_above_units tree node ≡ false
      → is_some (place turn.longer node) ≡ true → has_step steps node ≡ true
  -- a node has the step that what it reads gives, or it has none and is still to be looked at
  pub right : (node : ℕ) → IsNodeOf tree node
      → (step_in steps node ≡ node_step tree turn.longer (step_in steps) node)
      ⊎ ((step_in steps node ≡ never) × ((among todo node || reads_some tree (drop next log) node) ≡ true))

-- the same of failures
abbrev pub Spread : FaultTree → Turn → Failures → List ℕ → ℕ → Type 0
Spread tree turn failures todo next = IsSpreading tree turn failures.steps.items failures.log.items todo next

-- a unit has failed, with all that fails by it: the table has the steps under the longer order, and without those of
-- the nodes that failed now it is as before
pub record HaveFailed (tree : FaultTree) (longer : List ℕ) (before after : List Step) (log log' : List ℕ) : Type 0 where
  pub holds : HoldsSteps tree longer after
  pub front : take (length log) log' ≡ log
  pub undone : (node : ℕ) → step_without (drop (length log) log') after node ≡ step_in before node
