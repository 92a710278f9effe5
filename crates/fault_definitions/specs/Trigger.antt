-- Functional dependencies: by which nodes a unit is triggered, and what a node reads.
use Rattle.std.specs.Prelude.{ℕ, List, [], ◌∷◌, drop, Option, Some, None, if◌then◌else◌, filter_map}
use Rattle.unit_sets.specs.UnitList.{among}
use Rattle.fault_words.specs.{declared.kind.GateKind.GateKind, declared.kind.GateKind.TheVariants.Fdep}
use Rattle.fault_definitions.specs.Tree.{FaultTree, gates, inputs_of, is_above_units}

-- the first input of an `fdep`, where the unit is among the others
abbrev pub trigger_among : ℕ → List ℕ → Option ℕ
trigger_among unit [] = None
trigger_among unit (trigger ∷ dependents) = if among dependents unit then Some trigger else None

-- the trigger of a unit by one gate: an `fdep` gives its first input to each other one, no other gate any
abbrev pub trigger_by : ℕ → GateKind × List ℕ → Option ℕ
trigger_by unit (Fdep, inputs) = trigger_among unit inputs
trigger_by unit _ = None

-- the units that a gate triggers
abbrev pub dependents_in : GateKind × List ℕ → List ℕ
dependents_in (Fdep, inputs) = drop 1 inputs
dependents_in _ = []

-- the triggers of a unit: the first input of each `fdep` that has the unit among its others
abbrev pub triggers_of : FaultTree → ℕ → List ℕ
triggers_of tree unit = filter_map (trigger_by unit) (gates tree)

-- what a node reads: a gate its inputs, and a unit its triggers
abbrev pub below : FaultTree → ℕ → List ℕ
below tree node = if is_above_units tree node then inputs_of tree node else triggers_of tree node
