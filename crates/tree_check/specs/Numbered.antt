-- A text by the numbers of its tree: the gates with the numbers of their inputs, and the places of all that a fault
-- may be answered at.
use Rattle.std.specs.Prelude.{ℕ, ◌-◌, Bool, true, false, nat_lt, ◌&&◌, not, List, length, map, filter, slice_index_or}
use Rattle.fault_words.specs.{declared.kind.GateKind.GateKind, Names.number_in}
use Rattle.fault_words.specs.declared.kind.GateKind.TheVariants.{And, Or, Fdep, Csp, Wsp, Hsp}
use Rattle.fault_definitions.specs.Tree.{is_fdep_kind}
use Rattle.galileo_tree.specs.{declared.raw.Placed.Placed, declared.raw.RawGate.RawGate}
use Rattle.galileo_tree.specs.{declared.raw.Statement.Statement}
use Rattle.tree_check.specs.Said.{gates, basics, definitions, tops, names}
use Rattle.tree_check.specs.{declared.numbered.Numbered.Numbered, declared.numbered.NumberedGate.NumberedGate}

-- a name that stands in the text, as its number and its place
abbrev pub numbered : List (List ℕ) → Placed → Numbered
numbered names placed = record { number = number_in names placed.name; place = placed.place }

-- a gate of the text, with the numbers and places of its inputs
abbrev pub numbered_gate : List (List ℕ) → RawGate → NumberedGate
numbered_gate names gate =
    record { kind = gate.kind; word = gate.word; name = gate.name.place; inputs = map (numbered names) gate.inputs }

-- the gates of the statements, by numbers
abbrev pub numbered_gates : List Statement → List NumberedGate
numbered_gates statements = map (numbered_gate (names statements)) (gates statements)

-- what the statements define, by numbers
abbrev pub numbered_definitions : List Statement → List Numbered
numbered_definitions statements = map (numbered (names statements)) (definitions statements)

-- what the statements name as top events, by numbers
abbrev pub numbered_tops : List Statement → List Numbered
numbered_tops statements = map (λ top. numbered (names statements) top.name) (tops statements)

-- how many units the tree of the statements has: one for each basic event
abbrev pub unit_total : List Statement → ℕ
unit_total statements = length (basics statements)

-- ---- what a number stands for, by the number of units and the gates

-- whether a number is that of a gate, which is above those of the units
abbrev pub is_gate : ℕ → ℕ → Bool
is_gate units number = nat_lt units number

-- the kind of each gate
abbrev pub kinds : List NumberedGate → List GateKind
kinds gates = map (λ gate. gate.kind) gates

-- whether a number is that of an `fdep`, by the kinds of the gates
abbrev pub is_fdep_in : ℕ → List GateKind → ℕ → Bool
is_fdep_in units kinds number = nat_lt units number && is_fdep_kind (slice_index_or kinds (number - units - 1) Fdep)

-- an `and` and an `or` pass over an `fdep` among their inputs
abbrev pub drops_fdeps : GateKind → Bool
drops_fdeps And = true
drops_fdeps Or = true
drops_fdeps _ = false

-- whether a gate of this kind has spares: cold, warm or hot ones
abbrev pub is_spare_kind : GateKind → Bool
is_spare_kind Csp = true
is_spare_kind Wsp = true
is_spare_kind Hsp = true
is_spare_kind _ = false

-- the inputs that are left after dropping
abbrev pub kept_by : Bool → (ℕ → Bool) → List Numbered → List Numbered
kept_by true is_fdep inputs = filter (λ input. not (is_fdep input.number)) inputs
kept_by false is_fdep inputs = inputs

-- the inputs of a gate that are left after dropping, by the kinds of all gates
abbrev pub kept_inputs : ℕ → List GateKind → NumberedGate → List Numbered
kept_inputs units kinds gate = kept_by (drops_fdeps gate.kind) (is_fdep_in units kinds) gate.inputs
