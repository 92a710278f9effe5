-- The text of the command `print`: the tree in its own grammar, one statement a line, with every name in quotes.
use Rattle.std.specs.Prelude.{◌≡◌, ℕ, ◌+◌, true, List, ◌++◌, All, codes}
use Rattle.std.specs.List.{flat_map, range_with_len}
use Rattle.fault_words.specs.Name.{is_name}
use Rattle.fault_definitions.specs.Tree.{FaultTree, unit_count, gate_count, name_of, kind_of, inputs_of, attributes_of}
use Rattle.deck_reading.specs.{TreeStatements.HasNames, Written.attribute_text, Written.quoted}
use Rattle.text_pieces.specs.GateWords.{gate_word}

-- `toplevel "NAME";`
abbrev pub top_line : FaultTree → List ℕ
top_line tree = codes "toplevel " ++ (quoted (name_of tree tree.top) ++ codes ";\n")

-- an input behind a blank
abbrev pub input_text : FaultTree → ℕ → List ℕ
input_text tree input = codes " " ++ quoted (name_of tree input)

-- `"NAME" WORD "INPUT" ..;`
abbrev pub gate_line : FaultTree → ℕ → List ℕ
gate_line tree gate =
    quoted (name_of tree gate)
    ++ (codes " " ++ (gate_word (kind_of tree gate)
    ++ (flat_map (input_text tree) (inputs_of tree gate) ++ codes ";\n")))

-- `"NAME" word=value ..;`
abbrev pub unit_line : FaultTree → ℕ → List ℕ
unit_line tree unit = quoted (name_of tree unit) ++ (flat_map attribute_text (attributes_of tree unit) ++ codes ";\n")

-- the top event, the gates and the units
abbrev pub print_text : FaultTree → List ℕ
print_text tree =
    top_line tree
    ++ (flat_map (gate_line tree) (range_with_len (unit_count tree + 1) (gate_count tree))
    ++ flat_map (unit_line tree) (range_with_len 1 (unit_count tree)))

-- the name of a unit has the form of one, and so have the words and the values of its attributes
pub record IsNamedUnit (tree : FaultTree) (unit : ℕ) : Type 0 where
  pub name : is_name (name_of tree unit) ≡ true
  pub attributes : All HasNames (attributes_of tree unit)
