-- What holds of all names that a text uses, and of what its statements keep, as to its gates and basic events.
use Rattle.std.proofs.Common.{◌≡◌, ◌≢◌, ℕ, true, false, List, [], ◌∷◌, ◌++◌, length, map, arith, ◌+◌, length-append}
use Rattle.std.proofs.lemmas.List.{length-map}
use Rattle.std.specs.Prelude.{not, All, AllPairs}
use Rattle.std.proofs.lemmas.Bool.{not-true, not-false, and_parts, or_parts}
use Rattle.std.proofs.lemmas.List.Elements.{All-nil, All-cons, All-head, All-tail, All-map, All-weaker}
use Rattle.galileo_tree.specs.{declared.raw.Placed.Placed, declared.raw.RawTop.RawTop, declared.raw.RawGate.RawGate}
use Rattle.galileo_tree.specs.{declared.raw.RawBasic.RawBasic, declared.raw.Statement.Statement}
use Rattle.galileo_tree.specs.declared.raw.Statement.TheVariants.{Top, Gate, Basic}
use Rattle.galileo_tree.specs.ReadTree.{KeepsForm, HasShortNumbers, HasBareWord}
use Rattle.tree_check.specs.{declared.numbered.NumberedGate.NumberedGate, Classes.undefined}
use Rattle.fault_words.specs.Names.{has_name, same_name, all_differ}
use Rattle.tree_check.specs.Said.{tops, gates, basics, uses, names, basic_names, gate_names}
use Rattle.tree_check.specs.Numbered.{numbered, numbered_gate, numbered_gates, numbered_tops, unit_total}
use Rattle.tree_check.proofs.{Differ.same_itself, NonePass.none_pass, Numbers.number_within, GoodGates.IsAmong}
use Rattle.tree_check.proofs.{SpareParts.pairs-cons}

-- ---- the uses

front_all : {X : Type 0} (P : X → Type 0) (xs ys : List X) → All P (xs ++ ys) → All P xs
front_all P [] ys all = All-nil P
front_all P (x ∷ xs) ys all =
    All-cons P x xs (All-head P x (xs ++ ys) all) (front_all P xs ys (All-tail P x (xs ++ ys) all))

back_all : {X : Type 0} (P : X → Type 0) (xs ys : List X) → All P (xs ++ ys) → All P ys
back_all P [] ys all = all
back_all P (x ∷ xs) ys all = back_all P xs ys (All-tail P x (xs ++ ys) all)

module _ (P : Placed → Type 0) where
  tops_all : (statements : List Statement) → All P (uses statements) → All (λ top. P top.name) (tops statements)
  tops_all [] all = All-nil (λ (top : RawTop). P top.name)
  tops_all (Top top ∷ statements) all =
      All-cons (λ (t : RawTop). P t.name) top (tops statements) (All-head P top.name (uses statements) all)
      (tops_all statements (All-tail P top.name (uses statements) all))
  tops_all (Gate gate ∷ statements) all = tops_all statements (back_all P gate.inputs (uses statements) all)
  tops_all (Basic basic ∷ statements) all = tops_all statements all

  inputs_all : (statements : List Statement) → All P (uses statements)
      → All (λ gate. All P gate.inputs) (gates statements)
  inputs_all [] all = All-nil (λ (gate : RawGate). All P gate.inputs)
  inputs_all (Top top ∷ statements) all = inputs_all statements (All-tail P top.name (uses statements) all)
  inputs_all (Gate gate ∷ statements) all =
      All-cons (λ (g : RawGate). All P g.inputs) gate (gates statements) (front_all P gate.inputs (uses statements) all)
      (inputs_all statements (back_all P gate.inputs (uses statements) all))
  inputs_all (Basic basic ∷ statements) all = inputs_all statements all

module _ (all_names : List (List ℕ)) where
  abbrev HasNumber : Placed → Type 0
  HasNumber placed = IsAmong (length all_names) (numbered all_names placed)

  all_known : (used : List Placed) → undefined all_names used ≡ [] → All HasNumber used
  all_known used none =
      All-weaker (λ (u : Placed). not (has_name all_names u.name) ≡ false) HasNumber
      (λ u known. number_within all_names u.name (not-false (has_name all_names u.name) known))
      used (none_pass (λ (u : Placed). u.place) (λ (u : Placed). not (has_name all_names u.name)) used none)

-- where each name that is used is defined, the inputs of the gates and the top events have the numbers of nodes
module _ (statements : List Statement) (none : undefined (names statements) (uses statements) ≡ []) where
  pub inputs_known : All (λ gate. All (IsAmong (length (names statements))) gate.inputs) (numbered_gates statements)
  inputs_known =
      All-map (λ (gate : NumberedGate). All (IsAmong (length (names statements))) gate.inputs)
      (numbered_gate (names statements)) (gates statements)
      (All-weaker (λ (gate : RawGate). All (HasNumber (names statements)) gate.inputs)
      (λ (gate : RawGate). All (IsAmong (length (names statements)))
      (map (numbered (names statements)) gate.inputs))
      (λ gate known. All-map (IsAmong (length (names statements))) (numbered (names statements)) gate.inputs known)
      (gates statements) (inputs_all (HasNumber (names statements)) statements
      (all_known (names statements) (uses statements) none)))

  pub tops_known : All (IsAmong (length (names statements))) (numbered_tops statements)
  tops_known =
      All-map (IsAmong (length (names statements))) (λ (top : RawTop). numbered (names statements) top.name)
      (tops statements)
      (tops_all (HasNumber (names statements)) statements (all_known (names statements) (uses statements) none))

-- ---- how many there are

-- there is a name for each unit and each gate
pub names_total : (statements : List Statement) → length (names statements)
    ≡ unit_total statements + length (numbered_gates statements)
names_total statements =
    omega (
      arith,
      length-append (basic_names statements) (gate_names statements),
      length-map (basics statements) (λ (basic : RawBasic). basic.name.name),
      length-map (gates statements) (λ (gate : RawGate). gate.name.name),
      length-map (gates statements) (numbered_gate (names statements)),
    )

-- ---- the form

pub gates_short : (statements : List Statement) → All KeepsForm statements
    → All (λ gate. HasShortNumbers gate.kind) (gates statements)
gates_short [] form = All-nil (λ (gate : RawGate). HasShortNumbers gate.kind)
gates_short (Top top ∷ statements) form = gates_short statements (All-tail KeepsForm (Top top) statements form)
gates_short (Gate gate ∷ statements) form =
    All-cons (λ (g : RawGate). HasShortNumbers g.kind) gate (gates statements)
    (All-head KeepsForm (Gate gate) statements form)
    (gates_short statements (All-tail KeepsForm (Gate gate) statements form))
gates_short (Basic basic ∷ statements) form = gates_short statements (All-tail KeepsForm (Basic basic) statements form)

pub basics_bare : (statements : List Statement) → All KeepsForm statements
    → All (λ basic. All HasBareWord basic.attributes) (basics statements)
basics_bare [] form = All-nil (λ (basic : RawBasic). All HasBareWord basic.attributes)
basics_bare (Top top ∷ statements) form = basics_bare statements (All-tail KeepsForm (Top top) statements form)
basics_bare (Gate gate ∷ statements) form = basics_bare statements (All-tail KeepsForm (Gate gate) statements form)
basics_bare (Basic basic ∷ statements) form =
    All-cons (λ (b : RawBasic). All HasBareWord b.attributes) basic (basics statements)
    (All-head KeepsForm (Basic basic) statements form)
    (basics_bare statements (All-tail KeepsForm (Basic basic) statements form))

-- ---- names that differ

other_names : (all_names : List (List ℕ)) (name : List ℕ) → has_name all_names name ≡ false
    → All (λ other. name ≢ other) all_names
other_names [] name none = All-nil (λ other. name ≢ other)
other_names (first ∷ rest) name none =
    let parts = or_parts (same_name name first) (has_name rest name) none in
    All-cons (λ other. name ≢ other) first rest
    (λ same. (let yes' : same_name name first ≡ true = same_itself name first same in let not' = parts.0 in cc))
    (other_names rest name parts.1)

pub pairs_differ : (all_names : List (List ℕ)) → all_differ all_names ≡ true
    → AllPairs (λ earlier later. earlier ≢ later) all_names
pairs_differ [] all = λ i j d l k. absurd (omega arith)
pairs_differ (name ∷ rest) all =
    let parts = and_parts (not (has_name rest name)) (all_differ rest) all in
    pairs-cons name rest (other_names rest name (not-true (has_name rest name) parts.0)) (pairs_differ rest parts.1)
