-- What every tree keeps: the rules for a Galileo text that stands for a tree, and the rank of each node.
use Rattle.std.specs.Prelude.{◌≡◌, ◌≢◌, ℕ, ◌≤◌, false, IsTrue, List, [], length, drop, take, flat_map, All, AllPairs}
use Rattle.std.specs.Prelude.{Contains, codes}
use Rattle.std.specs.Str.{str_to_ascii_lowercase}
use Rattle.unit_sets.specs.Unit.{most_units}
use Rattle.fault_definitions.specs.{declared.parts.TheConstants.MOST_GATES, Rank.IsRanked}
use Rattle.fault_words.specs.{declared.attribute.Attribute.Attribute, declared.kind.GateKind.GateKind}
use Rattle.fault_words.specs.{Name.is_bare_name}
use Rattle.fault_words.specs.declared.kind.GateKind.TheVariants.{And, Or, Votes, Pand, Por, Seq, Fdep, Csp, Wsp, Hsp}
use Rattle.fault_definitions.specs.Tree.{FaultTree, unit_count, gate_count, node_count, gates, is_fdep, IsNodeOf}
use Rattle.fault_definitions.specs.Tree.{IsUnitOf}

-- ---- gates

-- K of N: K is not 0 nor above N, and there are N inputs, repeats counted
pub record IsSoundVote (least of : ℕ) (inputs : List ℕ) : Type 0 where
  pub some : 1 ≤ least
  pub enough : least ≤ of
  pub counted : of ≡ length inputs
  pub short : of ≤ 999999999

-- a gate whose inputs after the first are units, as dependents and spares are
pub record HasUnitsAfterFirst (tree : FaultTree) (least : ℕ) (inputs : List ℕ) : Type 0 where
  pub enough : least ≤ length inputs
  pub units : All (IsUnitOf tree) (drop 1 inputs)

-- the number of inputs and what they are, by the kind
abbrev pub IsSoundKind : FaultTree → GateKind → List ℕ → Type 0
IsSoundKind tree And inputs = 1 ≤ length inputs
IsSoundKind tree Or inputs = 1 ≤ length inputs
IsSoundKind tree (Votes least of) inputs = IsSoundVote least of inputs
IsSoundKind tree Pand inputs = 1 ≤ length inputs
IsSoundKind tree Por inputs = 1 ≤ length inputs
IsSoundKind tree Seq inputs = 1 ≤ length inputs
IsSoundKind tree Fdep inputs = HasUnitsAfterFirst tree 2 inputs
IsSoundKind tree Csp inputs = HasUnitsAfterFirst tree 1 inputs
IsSoundKind tree Wsp inputs = HasUnitsAfterFirst tree 1 inputs
IsSoundKind tree Hsp inputs = HasUnitsAfterFirst tree 1 inputs

-- a gate's inputs are nodes of the tree, and no `fdep`
pub record IsSoundGate (tree : FaultTree) (gate : GateKind × List ℕ) : Type 0 where
  pub nodes : All (IsNodeOf tree) gate.1
  pub read : All (λ input. is_fdep tree input ≡ false) gate.1
  pub kind : IsSoundKind tree gate.0 gate.1

-- ---- spares

-- the primary of a spare gate, and its spares
abbrev pub primary_in : GateKind × List ℕ → List ℕ
primary_in (Csp, inputs) = take 1 inputs
primary_in (Wsp, inputs) = take 1 inputs
primary_in (Hsp, inputs) = take 1 inputs
primary_in _ = []

-- the spares of a spare gate: its inputs after the primary
abbrev pub spares_in : GateKind × List ℕ → List ℕ
spares_in (Csp, inputs) = drop 1 inputs
spares_in (Wsp, inputs) = drop 1 inputs
spares_in (Hsp, inputs) = drop 1 inputs
spares_in _ = []

-- the primaries of all spare gates
abbrev pub primaries : FaultTree → List ℕ
primaries tree = flat_map primary_in (gates tree)

-- the spares of all spare gates
abbrev pub spares : FaultTree → List ℕ
spares tree = flat_map spares_in (gates tree)

-- ---- attributes

-- the word is a bare name, and an attribute `repl` has the value 1
pub record IsSoundAttribute (attribute : Attribute) : Type 0 where
  pub bare : IsTrue (is_bare_name attribute.word)
  pub single : str_to_ascii_lowercase attribute.word ≡ codes "repl" → attribute.value ≡ codes "1"

-- ---- the tree

-- the rules that every tree keeps
pub record IsTree (tree : FaultTree) : Type 0 where
  pub names_all : length tree.names ≡ node_count tree
  pub inputs_all : length tree.inputs ≡ gate_count tree
  pub ranks_all : length tree.ranks ≡ node_count tree
  pub few_units : unit_count tree ≤ most_units
  pub few_gates : gate_count tree ≤ MOST_GATES
  pub names_differ : AllPairs (λ earlier later. earlier ≢ later) tree.names
  pub top_is_node : IsNodeOf tree tree.top
  pub top_is_read : is_fdep tree tree.top ≡ false
  pub gates_sound : All (IsSoundGate tree) (gates tree)
  pub spares_differ : AllPairs (λ earlier later. earlier ≢ later) (spares tree)
  pub spares_are_no_primaries : All (λ spare. ¬ (Contains (primaries tree) spare)) (spares tree)
  pub attributes_sound : All (All IsSoundAttribute) tree.attributes
  -- no node reaches itself
  pub ranked : IsRanked tree
