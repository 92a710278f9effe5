-- Orders of units that fail the top event.
use Rattle.std.specs.Prelude.{ℕ, Bool, true, not, ◌&&◌, ◌||◌, is_some, List, [], ◌∷◌}
use Rattle.std.specs.List.{list_all}
use Rattle.unit_sets.specs.UnitList.{among}
use Rattle.fault_words.specs.declared.kind.GateKind.{GateKind}
use Rattle.fault_words.specs.declared.kind.GateKind.TheVariants.{Seq, Csp}
use Rattle.fault_definitions.specs.Tree.{FaultTree, gates}
use Rattle.fault_definitions.specs.Step.{Step, is_before, never_falls, place, step}

-- each spare of a cold spare gate that is in the order stands after the steps of all inputs left of it. A spare that
-- fails by a trigger alone is not in the order, and is not asked to wait
abbrev pub spares_wait : (ℕ → Step) → List ℕ → List ℕ → Bool
spares_wait step_of order [] = true
spares_wait step_of order (input ∷ spares) =
    list_all (λ spare. not (among order spare) || is_before (step_of input) (place order spare)) spares
    && spares_wait step_of order spares

-- whether a gate lets the order happen, by the steps of the nodes
abbrev pub gate_admits : (ℕ → Step) → List ℕ → GateKind × List ℕ → Bool
gate_admits step_of order (Seq, inputs) = never_falls step_of inputs
gate_admits step_of order (Csp, inputs) = spares_wait step_of order inputs
gate_admits step_of order _ = true

-- every gate of the tree lets the order happen, whether or not the top event reaches it
abbrev pub is_admissible : FaultTree → List ℕ → Bool
is_admissible tree order = list_all (gate_admits (step tree order) order) (gates tree)

-- the order is admissible, and the top event fails at some step
abbrev pub is_failing : FaultTree → List ℕ → Bool
is_failing tree order = is_admissible tree order && is_some (step tree order tree.top)
