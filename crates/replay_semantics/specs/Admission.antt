-- What one unit more asks of an order that is admissible, so that the longer one is.
use Rattle.std.specs.Prelude.{ℕ, Bool, true, ◌&&◌, ◌||◌, ◌==◌, not, is_some, List, [], ◌∷◌, if◌then◌else◌}
use Rattle.std.specs.List.{list_all}
use Rattle.fault_words.specs.declared.kind.GateKind.{GateKind}
use Rattle.fault_words.specs.declared.kind.GateKind.TheVariants.{Seq, Csp}
use Rattle.fault_definitions.specs.Tree.{FaultTree, kind_of, inputs_of, is_above_units}
use Rattle.fault_definitions.specs.Step.{Step, never_falls}
use Rattle.replay_semantics.specs.{Readers.readers_in, Table.step_in}

-- wherever the unit stands, all inputs left of it have failed, and so has what came before the inputs
abbrev pub is_awaited : (ℕ → Step) → ℕ → Bool → List ℕ → Bool
is_awaited step_of unit failed [] = true
is_awaited step_of unit failed (input ∷ inputs) =
    (not (input == unit) || failed) && is_awaited step_of unit (failed && is_some (step_of input)) inputs

-- whether a gate lets a unit fail next, by the steps before
abbrev pub gate_awaits : (ℕ → Step) → ℕ → GateKind → List ℕ → Bool
gate_awaits step_of unit Csp inputs = is_awaited step_of unit true inputs
gate_awaits step_of unit _ inputs = true

-- whether a gate's inputs have failed from left to right, where it asks for that
abbrev pub gate_in_turn : (ℕ → Step) → GateKind → List ℕ → Bool
gate_in_turn step_of Seq inputs = never_falls step_of inputs
gate_in_turn step_of _ inputs = true

-- the same of a node; a unit asks for nothing
abbrev pub node_awaits : FaultTree → (ℕ → Step) → ℕ → ℕ → Bool
node_awaits tree step_of unit node =
    if is_above_units tree node then gate_awaits step_of unit (kind_of tree node) (inputs_of tree node) else true

-- a node is in turn where it is no `seq`, or where the steps of its inputs never fall from left to right
abbrev pub node_in_turn : FaultTree → (ℕ → Step) → ℕ → Bool
node_in_turn tree step_of node =
    if is_above_units tree node then gate_in_turn step_of (kind_of tree node) (inputs_of tree node) else true

-- all readers of some nodes have failed in turn
abbrev pub all_in_turn : FaultTree → List (List ℕ) → List Step → List ℕ → Bool
all_in_turn tree rows steps nodes =
    list_all (λ node. list_all (node_in_turn tree (step_in steps)) (readers_in rows node)) nodes
