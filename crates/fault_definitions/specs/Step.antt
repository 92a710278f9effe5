-- The step at which a node fails when the units of an order fail one after another, after the Galileo manual's gates.
use Rattle.std.specs.Prelude.{ℕ, suc, Bool, true, false, ◌&&◌, ◌==◌, not, List, [], ◌∷◌, Option, Some, None, filter}
use Rattle.std.specs.Prelude.{if◌then◌else◌, nat_le}
use Rattle.std.specs.List.{list_all}
use Rattle.fault_words.specs.declared.kind.GateKind.{GateKind}
use Rattle.fault_words.specs.declared.kind.GateKind.TheVariants.{And, Or, Votes, Pand, Por, Seq, Fdep, Csp, Wsp, Hsp}
use Rattle.fault_definitions.specs.Tree.{FaultTree, kind_of, inputs_of, is_above_units}
use Rattle.fault_definitions.specs.{Trigger.triggers_of, Rank.by_rank, Reading.true_count}

-- ---- steps

-- a number from 1, or never
abbrev pub Step : Type 0
Step = Option ℕ

-- the step of a node that does not fail
abbrev pub never : Step
never = None

-- never is later than every number, and as late as itself
abbrev pub no_later : Step → Step → Bool
no_later step None = true
no_later None (Some number) = false
no_later (Some number) (Some other) = nat_le number other

-- a step is smaller than another: nothing is before a step as early as itself
abbrev pub is_before : Step → Step → Bool
is_before step other = not (no_later other step)

-- the smaller of two steps
abbrev pub earlier : Step → Step → Step
earlier step other = if no_later step other then step else other

-- the greater of two steps
abbrev pub later : Step → Step → Step
later step other = if no_later step other then other else step

-- ---- steps of several nodes

-- the least step; of no nodes it is never
abbrev pub earliest : (ℕ → Step) → List ℕ → Step
earliest step_of [] = never
earliest step_of (node ∷ nodes) = earlier (step_of node) (earliest step_of nodes)

-- the greatest step; of no nodes it stands before the first
abbrev pub latest : (ℕ → Step) → List ℕ → Step
latest step_of [] = Some 0
latest step_of (node ∷ nodes) = later (step_of node) (latest step_of nodes)

-- the step of the last node; of no nodes it is never
abbrev pub last_step : (ℕ → Step) → List ℕ → Step
last_step step_of [] = never
last_step step_of (node ∷ []) = step_of node
last_step step_of (node ∷ next ∷ nodes) = last_step step_of (next ∷ nodes)

-- the steps fall nowhere from left to right: equal ones don't, nor does never behind never
abbrev pub never_falls : (ℕ → Step) → List ℕ → Bool
never_falls step_of [] = true
never_falls step_of (node ∷ []) = true
never_falls step_of (node ∷ next ∷ nodes) = no_later (step_of node) (step_of next) && never_falls step_of (next ∷ nodes)

-- how many positions have failed by a step
abbrev pub failed_by : (ℕ → Step) → List ℕ → Step → ℕ
failed_by step_of nodes step = true_count (λ node. no_later (step_of node) step) nodes

-- the K-th smallest step over the positions: the first of their steps by which K of them have failed
abbrev pub kth_step : ℕ → (ℕ → Step) → List ℕ → Step
kth_step least step_of nodes =
    earliest step_of (filter (λ node. nat_le least (failed_by step_of nodes (step_of node))) nodes)

-- the first node's step, where no other has a smaller one
abbrev pub first_step : (ℕ → Step) → List ℕ → Step
first_step step_of [] = never
first_step step_of (node ∷ nodes) =
    if list_all (λ other. no_later (step_of node) (step_of other)) nodes then step_of node else never

-- ---- steps in a tree

-- a gate, by the steps of its inputs. An `fdep` has no step, and counts as never.
abbrev pub gate_step : GateKind → (ℕ → Step) → List ℕ → Step
gate_step And step_of inputs = latest step_of inputs
gate_step Or step_of inputs = earliest step_of inputs
gate_step (Votes least of) step_of inputs = kth_step least step_of inputs
gate_step Pand step_of inputs = if never_falls step_of inputs then last_step step_of inputs else never
gate_step Por step_of inputs = first_step step_of inputs
gate_step Seq step_of inputs = latest step_of inputs
gate_step Fdep step_of inputs = never
gate_step Csp step_of inputs = latest step_of inputs
gate_step Wsp step_of inputs = latest step_of inputs
gate_step Hsp step_of inputs = latest step_of inputs

-- the place of a unit in an order, from 1, or never
abbrev pub place_from : ℕ → List ℕ → ℕ → Step
place_from first [] unit = never
place_from first (failed ∷ order) unit = if failed == unit then Some first else place_from (suc first) order unit

-- the place of a unit in an order, counted from 1, or never where the order does not have it
abbrev pub place : List ℕ → ℕ → Step
place order unit = place_from 1 order unit

-- a node, by the steps of what it reads: a unit fails at its own place, or by a trigger
abbrev pub node_step : FaultTree → List ℕ → (ℕ → Step) → ℕ → Step
node_step tree order step_of node =
    if is_above_units tree node then gate_step (kind_of tree node) step_of (inputs_of tree node)
    else earlier (place order node) (earliest step_of (triggers_of tree node))

-- the step of a node
unfoldable pub step : FaultTree → List ℕ → ℕ → Step
step tree order node = by_rank tree never (node_step tree order) node
