-- How the table of triggers is filled.
use Rattle.std.specs.Prelude.{◌≡◌, ℕ, ◌+◌, ◌≤◌, Bool, true, false, ◌||◌, ◌&&◌, ◌==◌, List, [], ◌++◌, length, map, drop}
use Rattle.std.specs.Prelude.{All, filter_map, option_to_list, slice_index_or}
use Rattle.fault_words.specs.declared.kind.GateKind.{GateKind}
use Rattle.fault_definitions.specs.{Tree.is_fdep_kind, Trigger.trigger_by}
use Rattle.tree_check.specs.{TreeOf.numbers, TreeOf.input_lists, declared.numbered.Numbered.Numbered}
use Rattle.tree_check.specs.{declared.numbered.NumberedGate.NumberedGate}
use Rattle.unit_sets.specs.UnitList.{among}

-- the row of a number, which is empty where the table has none
abbrev pub row_at : List (List ℕ) → ℕ → List ℕ
row_at rows i = slice_index_or rows i []

-- the trigger is added at each of the dependents, and nothing else
pub record Notes (trigger : ℕ) (dependents : List ℕ) (old new : List (List ℕ)) : Type 0 where
  pub all : length new ≡ length old
  pub triggers : (unit other : ℕ) → among (row_at new unit) other
      ≡ (among (row_at old unit) other || (among dependents unit && trigger == other))

-- a gate as it stands in the text: its kind and the numbers of its inputs
abbrev pub written_gate : NumberedGate → GateKind × List ℕ
written_gate gate = (gate.kind, numbers gate.inputs)

-- the inputs of an `fdep` after the first
abbrev pub dependents_by : Bool → List Numbered → List Numbered
dependents_by true inputs = drop 1 inputs
dependents_by false inputs = []

-- the dependents of a gate: none, unless it is an `fdep`
abbrev pub dependents_of : NumberedGate → List Numbered
dependents_of gate = dependents_by (is_fdep_kind gate.kind) gate.inputs

-- the dependents of all gates are units by number
abbrev pub HasUnitDependents : ℕ → List NumberedGate → Type 0
HasUnitDependents units gates = All (λ gate. All (λ dependent. dependent.number ≤ units) (dependents_of gate)) gates

-- what a gate triggers is added, and nothing else
pub record AddsTriggers (gate : GateKind × List ℕ) (old new : List (List ℕ)) : Type 0 where
  pub all : length new ≡ length old
  pub triggers : (unit other : ℕ) → among (row_at new unit) other
      ≡ (among (row_at old unit) other || among (option_to_list (trigger_by unit gate)) other)

-- the row of each number has exactly what triggers it among some gates
pub record HasTriggers (units : ℕ) (gates : List (GateKind × List ℕ)) (rows : List (List ℕ)) : Type 0 where
  pub all : length rows ≡ units + 1
  pub triggers : (unit other : ℕ) → among (row_at rows unit) other ≡ among (filter_map (trigger_by unit) gates) other

-- the graph of what each node reads: the rows of the units from 0, then those of the gates
pub record IsGraphOf (units : ℕ) (gates : List NumberedGate) (graph : List (List ℕ)) : Type 0 where
  pub rows : List (List ℕ)
  pub is : graph ≡ rows ++ input_lists units gates
  pub triggers : HasTriggers units (map written_gate gates) rows
