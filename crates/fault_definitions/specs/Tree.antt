-- A fault tree, after the Galileo manual: units and gates under numbers, what each gate reads, and the top event.
use Rattle.std.specs.Prelude.{ℕ, ◌+◌, ◌-◌, ◌<◌, ◌≤◌, Bool, true, false, nat_lt, ◌&&◌, List, [], ◌∷◌, length, zip}
use Rattle.std.specs.Prelude.{slice_index, slice_index_or}
use Rattle.fault_words.specs.{declared.attribute.Attribute.Attribute, declared.kind.GateKind.GateKind}
use Rattle.fault_words.specs.{declared.kind.GateKind.TheVariants.Fdep}
use Rattle.fault_definitions.specs.declared.parts.TreeParts.{TreeParts}

-- The units are 1 to U, and the gates U+1 to U+G. Each list goes in the order of the numbers.
pub record FaultTree : Type 0 where
  -- of each unit, then of each gate
  pub names : List (List ℕ)
  -- of each gate
  pub kinds : List GateKind
  pub inputs : List (List ℕ)
  -- of each unit
  pub attributes : List (List Attribute)
  pub top : ℕ
  -- of each unit, then of each gate: how far a node stands above what it reads
  pub ranks : List ℕ

-- the tree of these parts, with these ranks
abbrev pub ranked : TreeParts → List ℕ → FaultTree
ranked parts ranks = record {
  names = parts.names;
  kinds = parts.kinds;
  inputs = parts.inputs;
  attributes = parts.attributes;
  top = parts.top;
  ranks = ranks;
}

-- U, G, and both together
abbrev pub unit_count : FaultTree → ℕ
unit_count tree = length tree.attributes

-- G, the number of gates
abbrev pub gate_count : FaultTree → ℕ
gate_count tree = length tree.kinds

-- U + G, the number of nodes
abbrev pub node_count : FaultTree → ℕ
node_count tree = unit_count tree + gate_count tree

-- the number is that of a unit
abbrev pub IsUnitOf : FaultTree → ℕ → Type 0
IsUnitOf tree unit = (1 ≤ unit) × (unit ≤ unit_count tree)

-- the number is that of a gate
abbrev pub IsGateOf : FaultTree → ℕ → Type 0
IsGateOf tree gate = (unit_count tree < gate) × (gate ≤ node_count tree)

-- the number is that of a unit or of a gate
abbrev pub IsNodeOf : FaultTree → ℕ → Type 0
IsNodeOf tree node = (1 ≤ node) × (node ≤ node_count tree)

-- a node is a unit or stands above the units
abbrev pub is_above_units : FaultTree → ℕ → Bool
is_above_units tree node = nat_lt (unit_count tree) node

-- the kind of a gate, and its inputs from left to right. A number of no gate counts as an `fdep` without inputs.
abbrev pub kind_of : FaultTree → ℕ → GateKind
kind_of tree gate = slice_index_or tree.kinds (gate - unit_count tree - 1) Fdep

-- the inputs of a gate from left to right. A number of no gate has none.
abbrev pub inputs_of : FaultTree → ℕ → List ℕ
inputs_of tree gate = slice_index_or tree.inputs (gate - unit_count tree - 1) []

-- every gate, as its kind and its inputs
abbrev pub gates : FaultTree → List (GateKind × List ℕ)
gates tree = zip tree.kinds tree.inputs

-- the name of a unit or of a gate
abbrev pub name_of : FaultTree → ℕ → List ℕ
name_of tree node = slice_index_or tree.names (node - 1) []

-- the attributes of a unit, in the order of the text
abbrev pub attributes_of : FaultTree → ℕ → List Attribute
attributes_of tree unit = slice_index_or tree.attributes (unit - 1) []

-- how far a node stands above what it reads
abbrev pub rank_of : FaultTree → ℕ → ℕ
rank_of tree node = slice_index (0 ∷ tree.ranks) node

-- the kind is that of a functional dependency
abbrev pub is_fdep_kind : GateKind → Bool
is_fdep_kind Fdep = true
is_fdep_kind _ = false

-- the node is a functional dependency, which no gate reads
abbrev pub is_fdep : FaultTree → ℕ → Bool
is_fdep tree node = is_above_units tree node && is_fdep_kind (kind_of tree node)
