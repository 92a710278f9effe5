-- Whether a node fails, by the steps of what it reads.
use Rattle.std.specs.Prelude.{ℕ, ◌≤◌, Bool, true, ◌&&◌, List, [], ◌∷◌}
use Rattle.std.specs.Prelude.{is_some, if◌then◌else◌}
use Rattle.fault_words.specs.{declared.kind.GateKind.GateKind, declared.kind.GateKind.TheVariants.Votes}
use Rattle.fault_definitions.specs.Tree.{FaultTree, kind_of, inputs_of, is_above_units}
use Rattle.fault_definitions.specs.Trigger.{triggers_of}
use Rattle.fault_definitions.specs.Step.{Step, no_later, earliest}
use Rattle.fault_definitions.specs.Step.{gate_step}

-- a gate, by the steps of its inputs
abbrev pub gate_fails : GateKind → (ℕ → Step) → List ℕ → Bool
gate_fails kind step_of inputs = is_some (gate_step kind step_of inputs)

-- a node that reads others: a gate, or a unit with triggers
abbrev pub node_fails : FaultTree → (ℕ → Step) → ℕ → Bool
node_fails tree step_of node =
    if is_above_units tree node then gate_fails (kind_of tree node) step_of (inputs_of tree node)
    else is_some (earliest step_of (triggers_of tree node))

-- K is not 0
abbrev pub AsksSome : GateKind → Type 0
AsksSome (Votes least of) = 1 ≤ least
AsksSome _ = Unit {0}

-- the steps never fall after a step
abbrev pub falls_not_after : (ℕ → Step) → Step → List ℕ → Bool
falls_not_after step_of before [] = true
falls_not_after step_of before (node ∷ nodes) =
    no_later before (step_of node) && falls_not_after step_of (step_of node) nodes
