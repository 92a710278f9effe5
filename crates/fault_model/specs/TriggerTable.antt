-- How the table of triggers is filled, one `fdep` after another.
use Rattle.std.specs.Prelude.{◌≡◌, ℕ, ◌-◌, ◌<◌, ◌≤◌, List, [], ◌++◌, length, filter_map, option_to_list, slice_index}
use Rattle.std.specs.Prelude.{slice_index_or}
use Rattle.fault_words.specs.declared.kind.GateKind.{GateKind}
use Rattle.fault_model.specs.declared.trigger.TriggerTable.{TriggerTable}
use Rattle.fault_definitions.specs.Trigger.{trigger_by}

-- what a list has for a unit
abbrev pub at_unit : List ℕ → ℕ → ℕ
at_unit values unit = slice_index values (unit - 1)

-- the number is that of one of so many units
abbrev pub IsUnitBelow : ℕ → ℕ → Type 0
IsUnitBelow units unit = (1 ≤ unit) × (unit ≤ units)

-- the triggers that the table has for a unit so far
abbrev pub noted : TriggerTable → ℕ → List ℕ
noted table unit = slice_index_or table.lists.items (unit - 1) []

-- the table has each unit's triggers among some gates
pub record IsTableOf (units : ℕ) (some_gates : List (GateKind × List ℕ)) (table : TriggerTable) : Type 0 where
  pub all : length table.lists.items ≡ units
  pub triggers : (unit : ℕ) → IsUnitBelow units unit → noted table unit ≡ filter_map (trigger_by unit) some_gates

-- each unit has a mark, which is below the limit
pub record AreMarks (units limit : ℕ) (table : TriggerTable) : Type 0 where
  pub all : length table.marks.items ≡ units
  pub low : (unit : ℕ) → IsUnitBelow units unit → slice_index table.marks.items (unit - 1) < limit

-- each unit has the trigger more that the gate is to it, if it is one
pub record AddsTriggers (units : ℕ) (gate : GateKind × List ℕ) (old new : TriggerTable) : Type 0 where
  pub all : length new.lists.items ≡ units
  pub triggers : (unit : ℕ) → IsUnitBelow units unit
      → noted new unit ≡ noted old unit ++ option_to_list (trigger_by unit gate)
