-- What the statements of a text say, in the order of the text.
use Rattle.std.specs.Prelude.{ℕ, List, [], ◌∷◌, ◌++◌, map}
use Rattle.std.specs.List.{flat_map}
use Rattle.galileo_tree.specs.{declared.raw.Placed.Placed, declared.raw.RawTop.RawTop, declared.raw.RawGate.RawGate}
use Rattle.galileo_tree.specs.{declared.raw.RawBasic.RawBasic, declared.raw.Statement.Statement}
use Rattle.galileo_tree.specs.declared.raw.Statement.TheVariants.{Top, Gate, Basic}

-- the statement, if it names a top event
abbrev pub top_in : Statement → List RawTop
top_in (Top top) = top ∷ []
top_in (Gate gate) = []
top_in (Basic basic) = []

-- the gate that a statement defines, if it does
abbrev pub gate_in : Statement → List RawGate
gate_in (Top top) = []
gate_in (Gate gate) = gate ∷ []
gate_in (Basic basic) = []

-- the basic event that a statement defines, if it does
abbrev pub basic_in : Statement → List RawBasic
basic_in (Top top) = []
basic_in (Gate gate) = []
basic_in (Basic basic) = basic ∷ []

-- the name that a statement defines
abbrev pub definition_in : Statement → List Placed
definition_in (Top top) = []
definition_in (Gate gate) = gate.name ∷ []
definition_in (Basic basic) = basic.name ∷ []

-- the names that it uses
abbrev pub uses_in : Statement → List Placed
uses_in (Top top) = top.name ∷ []
uses_in (Gate gate) = gate.inputs
uses_in (Basic basic) = []

-- the top statements of a text
abbrev pub tops : List Statement → List RawTop
tops statements = flat_map top_in statements

-- the gates that a text defines
abbrev pub gates : List Statement → List RawGate
gates statements = flat_map gate_in statements

-- the basic events that a text defines
abbrev pub basics : List Statement → List RawBasic
basics statements = flat_map basic_in statements

-- the names that a text defines, each where it is defined
abbrev pub definitions : List Statement → List Placed
definitions statements = flat_map definition_in statements

-- the names that a text uses, each where it stands
abbrev pub uses : List Statement → List Placed
uses statements = flat_map uses_in statements

-- the names of the basic events of a text
abbrev pub basic_names : List Statement → List (List ℕ)
basic_names statements = map (λ basic. basic.name.name) (basics statements)

-- the names of the gates of a text
abbrev pub gate_names : List Statement → List (List ℕ)
gate_names statements = map (λ gate. gate.name.name) (gates statements)

-- The names of the tree: those of the basic events, then those of the gates, each in the order of the definitions.
abbrev pub names : List Statement → List (List ℕ)
names statements = basic_names statements ++ gate_names statements
