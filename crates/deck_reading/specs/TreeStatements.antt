-- The statements of a tree, as they are written with every name in quotes.
use Rattle.std.specs.Prelude.{◌≡◌, ℕ, ◌+◌, true, List, ◌∷◌, ◌++◌, map, All}
use Rattle.std.specs.List.{range_with_len}
use Rattle.fault_words.specs.{declared.attribute.Attribute.Attribute, Name.is_name}
use Rattle.fault_definitions.specs.Tree.{FaultTree, attributes_of, gate_count, inputs_of, kind_of, name_of, unit_count}
use Rattle.deck_reading.specs.Written.{InQuotes, Top, Gate, Basic, WrittenName, WrittenStatement}

-- the name of a node
abbrev pub node_name : FaultTree → ℕ → WrittenName
node_name tree node = InQuotes (name_of tree node)

-- the statement that says which node is the top event
abbrev pub top_statement : FaultTree → WrittenStatement
top_statement tree = Top (node_name tree tree.top)

-- the definition of a gate: its name, its kind, and the names of its inputs from left to right
abbrev pub gate_statement : FaultTree → ℕ → WrittenStatement
gate_statement tree gate = Gate (node_name tree gate) (kind_of tree gate) (map (node_name tree) (inputs_of tree gate))

-- the definition of a basic event: its name and its attributes
abbrev pub unit_statement : FaultTree → ℕ → WrittenStatement
unit_statement tree unit = Basic (node_name tree unit) (attributes_of tree unit)

-- the numbers of the gates, and of the units
abbrev pub gate_numbers : FaultTree → List ℕ
gate_numbers tree = range_with_len (unit_count tree + 1) (gate_count tree)

-- the numbers of the units, from 1 on
abbrev pub unit_numbers : FaultTree → List ℕ
unit_numbers tree = range_with_len 1 (unit_count tree)

-- the top event, then the gates and the units by number
abbrev pub statements_of : FaultTree → List WrittenStatement
statements_of tree =
    top_statement tree ∷ (map (gate_statement tree) (gate_numbers tree)
    ++ map (unit_statement tree) (unit_numbers tree))

-- the word and the value of an attribute have the form of names
pub record HasNames (attribute : Attribute) : Type 0 where
  pub word : is_name attribute.word ≡ true
  pub value : is_name attribute.value ≡ true

-- each name of a tree has the form of one, and so do the words and the values of its attributes
pub record IsNamed (tree : FaultTree) : Type 0 where
  pub names : All (λ name. is_name name ≡ true) tree.names
  pub attributes : All (All HasNames) tree.attributes
