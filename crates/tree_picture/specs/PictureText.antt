-- The text of a picture, in the DOT language: a line for each node, under the node's number, and a line for each input
-- of a gate.
use Rattle.std.specs.Prelude.{ℕ, if◌then◌else◌, nat_eq, List, ◌++◌, codes, decimal, filter}
use Rattle.std.specs.List.{flat_map, starts_with}
use Rattle.unit_sets.specs.UnitList.{among}
use Rattle.fault_words.specs.declared.kind.GateKind.{GateKind}
use Rattle.fault_words.specs.declared.kind.GateKind.TheVariants.{And, Or, Votes, Pand, Por, Seq, Fdep, Csp, Wsp, Hsp}
use Rattle.fault_definitions.specs.Tree.{FaultTree, inputs_of, is_above_units, is_fdep_kind, kind_of, name_of}
use Rattle.crew_script.specs.Deck.{lines_of}
use Rattle.deck_reading.specs.TreeStatements.{gate_numbers, unit_numbers}
use Rattle.text_pieces.specs.GateWords.{gate_word}
use Rattle.tree_picture.specs.Labels.{label_text}

-- ---- lines of nodes

-- the beginning of a node's line: `  NUMBER [`
abbrev pub node_head : ℕ → List ℕ
node_head node = codes "  " ++ (decimal node ++ codes " [")

-- the shape of a unit, a circle, which is filled where the unit is marked
abbrev pub unit_shape : List ℕ → ℕ → List ℕ
unit_shape marked unit = if among marked unit then codes "circle, style=filled" else codes "circle"

-- `  NUMBER [label="NAME", shape=circle];`
abbrev pub unit_line : FaultTree → List ℕ → ℕ → List ℕ
unit_line tree marked unit =
    node_head unit ++ (codes "label=\"" ++ (label_text (name_of tree unit)
    ++ (codes "\", shape=" ++ (unit_shape marked unit ++ codes "];"))))

-- The shape of a gate: flat for an `and`, pointed for an `or`, each doubled where the inputs' order counts, six corners
-- for a vote, a box for a dependency, which is dashed, and for a sequence, and a box with places for spares.
abbrev pub gate_shape : GateKind → List ℕ
gate_shape And = codes "trapezium"
gate_shape Or = codes "triangle"
gate_shape (Votes least inputs) = codes "hexagon"
gate_shape Pand = codes "trapezium, peripheries=2"
gate_shape Por = codes "triangle, peripheries=2"
gate_shape Seq = codes "box"
gate_shape Fdep = codes "box, style=dashed"
gate_shape Csp = codes "component"
gate_shape Wsp = codes "component"
gate_shape Hsp = codes "component"

-- the name of a gate, and its word below it
abbrev pub gate_label : FaultTree → ℕ → List ℕ
gate_label tree gate = label_text (name_of tree gate) ++ (codes "\\n" ++ gate_word (kind_of tree gate))

-- `  NUMBER [label="NAME\nWORD", shape=SHAPE];`
abbrev pub gate_line : FaultTree → ℕ → List ℕ
gate_line tree gate =
    node_head gate ++ (codes "label=\"" ++ (gate_label tree gate
    ++ (codes "\", shape=" ++ (gate_shape (kind_of tree gate) ++ codes "];"))))

-- the line of a node
abbrev pub node_line : FaultTree → List ℕ → ℕ → List ℕ
node_line tree marked node = if is_above_units tree node then gate_line tree node else unit_line tree marked node

-- ---- lines of inputs

-- the beginning of each line of a gate's inputs: `  NUMBER -> `
abbrev pub input_head : ℕ → List ℕ
input_head gate = codes "  " ++ (decimal gate ++ codes " -> ")

-- an `fdep` doesn't fail by its inputs, so that its lines are dashed
abbrev pub input_style : GateKind → List ℕ
input_style kind = if is_fdep_kind kind then codes " [style=dashed]" else codes ""

-- `  NUMBER -> NUMBER;`
abbrev pub input_line : FaultTree → ℕ → ℕ → List ℕ
input_line tree gate input =
    input_head gate ++ (decimal input ++ (input_style (kind_of tree gate) ++ codes ";"))

-- ---- the picture

-- a line with its line feed
abbrev pub ended : List ℕ → List ℕ
ended line = line ++ codes "\n"

-- a unit, on a line of its own
abbrev pub unit_text : FaultTree → List ℕ → ℕ → List ℕ
unit_text tree marked unit = ended (unit_line tree marked unit)

-- an input of a gate, on a line of its own
abbrev pub input_text : FaultTree → ℕ → ℕ → List ℕ
input_text tree gate input = ended (input_line tree gate input)

-- a gate, and then its inputs from left to right
abbrev pub gate_text : FaultTree → ℕ → List ℕ
gate_text tree gate = ended (gate_line tree gate) ++ flat_map (input_text tree gate) (inputs_of tree gate)

-- the units by number, and then the gates by number
abbrev pub nodes_text : FaultTree → List ℕ → List ℕ
nodes_text tree marked =
    flat_map (unit_text tree marked) (unit_numbers tree) ++ flat_map (gate_text tree) (gate_numbers tree)

-- A directed graph, in which what stands below a node goes from left to right as its lines do.
abbrev pub picture_text : FaultTree → List ℕ → List ℕ
picture_text tree marked = codes "digraph {\n  ordering=out;\n" ++ (nodes_text tree marked ++ codes "}\n")

-- ---- what a text has

-- the lines of a text that begin with a head
abbrev pub lines_with : List ℕ → List ℕ → List (List ℕ)
lines_with head text = filter (λ line. starts_with nat_eq line head) (lines_of text)
