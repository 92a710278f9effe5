-- What statements say by the numbers of their tree, wherever they stand.
use Rattle.std.proofs.Common.{◌≡◌, ℕ, List, [], ◌++◌, length, map, refl, sym, ap, ◌∙◌}
use Rattle.std.proofs.lemmas.List.{length-map}
use Rattle.galileo_tree.specs.{declared.raw.Placed.Placed, declared.raw.RawTop.RawTop, declared.raw.RawGate.RawGate}
use Rattle.galileo_tree.specs.{declared.raw.RawBasic.RawBasic, declared.raw.Statement.Statement}
use Rattle.galileo_tree.specs.declared.raw.Statement.TheVariants as raw
use Rattle.tree_check.specs.Said.{basic_in, basics, definition_in, definitions, gate_in, gates, names, top_in}
use Rattle.tree_check.specs.Said.{tops}
use Rattle.tree_check.specs.Said.{uses, uses_in}
use Rattle.tree_check.specs.Numbered.{numbered, numbered_definitions, numbered_gate, numbered_gates}
use Rattle.tree_check.specs.Numbered.{numbered_tops}
use Rattle.tree_check.specs.Numbered.{unit_total}
use Rattle.deck_reading.specs.Unplaced.{nowhere, unplaced, unplaced_attribute, unplaced_name}
use Rattle.deck_reading.proofs.Passing.{flat_map_through, map_through}

-- ---- parts whose places are put aside

abbrev ItemOf : {A : Type 0} → List A → Type 0
ItemOf {A} items = A

-- a name and a gate by the numbers of the tree
abbrev pub Numbered : Type 0
Numbered = ItemOf (numbered_tops [])

abbrev pub NumberedGate : Type 0
NumberedGate = ItemOf (numbered_gates [])

abbrev pub unplaced_top : RawTop → RawTop
unplaced_top top = record { word = nowhere; name = unplaced_name top.name }

abbrev pub unplaced_gate : RawGate → RawGate
unplaced_gate gate = record {
  name = unplaced_name gate.name;
  word = nowhere;
  kind = gate.kind;
  inputs = map unplaced_name gate.inputs;
}

abbrev pub unplaced_basic : RawBasic → RawBasic
unplaced_basic basic = record { name = unplaced_name basic.name; attributes = map unplaced_attribute basic.attributes }

abbrev pub unplaced_number : Numbered → Numbered
unplaced_number input = record { number = input.number; place = nowhere }

abbrev pub unplaced_numbers : NumberedGate → NumberedGate
unplaced_numbers gate = record {
  kind = gate.kind;
  word = nowhere;
  name = nowhere;
  inputs = map unplaced_number gate.inputs;
}

-- ---- what statements say

top_unplaced : (statement : Statement) → top_in (unplaced statement) ≡ map unplaced_top (top_in statement)
top_unplaced (raw.Top top) = refl
top_unplaced (raw.Gate gate) = refl
top_unplaced (raw.Basic basic) = refl

gate_unplaced : (statement : Statement) → gate_in (unplaced statement) ≡ map unplaced_gate (gate_in statement)
gate_unplaced (raw.Top top) = refl
gate_unplaced (raw.Gate gate) = refl
gate_unplaced (raw.Basic basic) = refl

basic_unplaced : (statement : Statement) → basic_in (unplaced statement) ≡ map unplaced_basic (basic_in statement)
basic_unplaced (raw.Top top) = refl
basic_unplaced (raw.Gate gate) = refl
basic_unplaced (raw.Basic basic) = refl

definition_unplaced : (statement : Statement) → definition_in (unplaced statement) ≡ map unplaced_name
    (definition_in statement)
definition_unplaced (raw.Top top) = refl
definition_unplaced (raw.Gate gate) = refl
definition_unplaced (raw.Basic basic) = refl

uses_unplaced : (statement : Statement) → uses_in (unplaced statement) ≡ map unplaced_name (uses_in statement)
uses_unplaced (raw.Top top) = refl
uses_unplaced (raw.Gate gate) = refl
uses_unplaced (raw.Basic basic) = refl

module _ (ns : List (List ℕ)) where
  gate_through : (gate : RawGate) → numbered_gate ns (unplaced_gate gate) ≡ unplaced_numbers (numbered_gate ns gate)
  gate_through gate =
      let with_inputs = λ (inputs : List Numbered). (let g : NumberedGate =
      record { kind = gate.kind; word = nowhere; name = nowhere; inputs = inputs } in g) in
      ap with_inputs (map_through (numbered ns) unplaced_name (λ (p : Placed). unplaced_number (numbered ns p))
      (λ p. refl) gate.inputs
      ∙ sym (map_through unplaced_number (numbered ns) (λ (p : Placed). unplaced_number (numbered ns p))
      (λ p. refl) gate.inputs))

  gates_through : (gs : List RawGate) → map (numbered_gate ns) (map unplaced_gate gs) ≡ map unplaced_numbers
      (map (numbered_gate ns) gs)
  gates_through gs =
      map_through (numbered_gate ns) unplaced_gate
      (λ (g : RawGate). unplaced_numbers (numbered_gate ns g)) gate_through gs
      ∙ sym (map_through unplaced_numbers (numbered_gate ns) (λ (g : RawGate). unplaced_numbers (numbered_gate ns g))
      (λ g. refl) gs)

module _ (ss : List Statement) where
  pub all_tops : tops (map unplaced ss) ≡ map unplaced_top (tops ss)
  all_tops = flat_map_through top_in unplaced unplaced_top top_in top_unplaced ss

  all_gates : gates (map unplaced ss) ≡ map unplaced_gate (gates ss)
  all_gates = flat_map_through gate_in unplaced unplaced_gate gate_in gate_unplaced ss

  pub all_basics : basics (map unplaced ss) ≡ map unplaced_basic (basics ss)
  all_basics = flat_map_through basic_in unplaced unplaced_basic basic_in basic_unplaced ss

  pub all_definitions : definitions (map unplaced ss) ≡ map unplaced_name (definitions ss)
  all_definitions = flat_map_through definition_in unplaced unplaced_name definition_in definition_unplaced ss

  pub all_uses : uses (map unplaced ss) ≡ map unplaced_name (uses ss)
  all_uses = flat_map_through uses_in unplaced unplaced_name uses_in uses_unplaced ss

  -- the names of the tree
  pub all_names : names (map unplaced ss) ≡ names ss
  all_names =
      let of_basics = λ (basic : RawBasic). basic.name.name in
      let of_gates = λ (gate : RawGate). gate.name.name in
      ap (λ bs. map of_basics bs ++ map of_gates (gates (map unplaced ss))) all_basics
      ∙ ap (λ gs. map of_basics (map unplaced_basic (basics ss)) ++ map of_gates gs) all_gates
      ∙ ap (λ l. l ++ map of_gates (map unplaced_gate (gates ss)))
      (map_through of_basics unplaced_basic of_basics (λ b. refl) (basics ss))
      ∙ ap (λ l. map of_basics (basics ss) ++ l) (map_through of_gates unplaced_gate of_gates (λ g. refl) (gates ss))

  pub all_units : unit_total (map unplaced ss) ≡ unit_total ss
  all_units = ap length all_basics ∙ length-map (basics ss) unplaced_basic

  -- what stands in them by numbers
  pub all_numbered_gates : numbered_gates (map unplaced ss) ≡ map unplaced_numbers (numbered_gates ss)
  all_numbered_gates =
      ap (λ ns. map (numbered_gate ns) (gates (map unplaced ss))) all_names
      ∙ ap (map (numbered_gate (names ss))) all_gates
      ∙ gates_through (names ss) (gates ss)

  pub all_numbered_tops : numbered_tops (map unplaced ss) ≡ map unplaced_number (numbered_tops ss)
  all_numbered_tops =
      let by = λ (ns : List (List ℕ)) (top : RawTop). numbered ns top.name in
      ap (λ ns. map (by ns) (tops (map unplaced ss))) all_names
      ∙ ap (map (by (names ss))) all_tops
      ∙ map_through (by (names ss)) unplaced_top (λ (top : RawTop). unplaced_number (by (names ss) top)) (λ t. refl)
      (tops ss)
      ∙ sym (map_through unplaced_number (by (names ss)) (λ (top : RawTop). unplaced_number (by (names ss) top))
      (λ t. refl) (tops ss))

  pub all_numbered_definitions : numbered_definitions (map unplaced ss) ≡ map unplaced_number (numbered_definitions ss)
  all_numbered_definitions =
      ap (λ ns. map (numbered ns) (definitions (map unplaced ss))) all_names
      ∙ ap (map (numbered (names ss))) all_definitions
      ∙ map_through (numbered (names ss)) unplaced_name (λ (p : Placed). unplaced_number (numbered (names ss) p))
      (λ p. refl) (definitions ss)
      ∙ sym (map_through unplaced_number (numbered (names ss))
      (λ (p : Placed). unplaced_number (numbered (names ss) p)) (λ p. refl) (definitions ss))
