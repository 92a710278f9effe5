-- That a gate at which no class of faults occurs is a gate of a tree.
use Rattle.std.proofs.Common.{◌≡◌, ◌≢◌, ℕ, ◌-◌, ◌≤◌, Bool, true, false, List, [], ◌∷◌, length, get_or, drop, sym, ◌∙◌}
use Rattle.std.proofs.Common.{ap, arith}
use Rattle.std.specs.Prelude.{if◌then◌else◌, ◌==◌, ◌&&◌, ◌||◌, nat_lt, not, All, slice_index_or}
use Rattle.std.proofs.lemmas.Bool.{or_parts, not-true, not-false, eqb-true, eqb-false, ltb-false}
use Rattle.std.proofs.lemmas.List.{length-map, drop-map}
use Rattle.std.proofs.lemmas.List.Elements.{All-nil, All-weaker, All-map, All-drop, All-filter, All-same, filter_passes}
use Rattle.fault_words.specs.declared.kind.GateKind.{GateKind}
use Rattle.fault_words.specs.declared.kind.GateKind.TheVariants.{And, Or, Votes, Pand, Por, Seq, Fdep, Csp, Wsp, Hsp}
use Rattle.fault_definitions.specs.Tree.{FaultTree, unit_count, node_count, is_fdep, is_fdep_kind, IsNodeOf, IsUnitOf}
use Rattle.fault_definitions.specs.WellFormed.{IsSoundVote, HasUnitsAfterFirst, IsSoundKind, IsSoundGate}
use Rattle.galileo_tree.specs.ReadTree.{HasShortNumbers}
use Rattle.tree_check.specs.{declared.numbered.Numbered.Numbered, declared.numbered.NumberedGate.NumberedGate}
use Rattle.tree_check.specs.{TreeOf.numbers, Triggers.HasUnitDependents, Triggers.dependents_by}
use Rattle.tree_check.specs.Numbered.{is_gate, is_fdep_in, drops_fdeps, is_spare_kind, kept_by, kept_inputs}
use Rattle.tree_check.specs.Classes.{is_empty, wrong_vote, places_where, dummies_in, reads_nothing, is_short_fdep}
use Rattle.tree_check.specs.Classes.{gates_after_first, dependent_gates}
use Rattle.tree_check.proofs.{Edges.kept_gate, Edges.kept_gates, NonePass.none_pass, NonePass.none_each}

-- an input has the number of one of so many names
abbrev pub IsAmong : ℕ → Numbered → Type 0
IsAmong nodes input = (1 ≤ input.number) × (input.number ≤ nodes)

abbrev pub IsUnitNumber : ℕ → Numbered → Type 0
IsUnitNumber units input = input.number ≤ units

-- no class of faults occurs at the gate
pub record IsGood (units nodes : ℕ) (all_kinds : List GateKind) (gate : NumberedGate) : Type 0 where
  pub known : All (IsAmong nodes) gate.inputs
  pub short : HasShortNumbers gate.kind
  pub votes : wrong_vote gate.kind (length gate.inputs) ≡ false
  pub no_dummies : dummies_in (is_fdep_in units all_kinds) gate ≡ []
  pub some : reads_nothing units all_kinds gate ≡ false
  pub two : is_short_fdep gate ≡ false
  pub dependents : gates_after_first is_fdep_kind units gate ≡ []
  pub spares : gates_after_first is_spare_kind units gate ≡ []

-- ---- the inputs that are left

kept_all : (P : Numbered → Type 0) (drops : Bool) (is_fdep : ℕ → Bool) (inputs : List Numbered) → All P inputs
    → All P (kept_by drops is_fdep inputs)
kept_all P true is_fdep inputs all = All-filter (λ (input : Numbered). not (is_fdep input.number)) P inputs all
kept_all P false is_fdep inputs all = all

kept_read : (drops : Bool) (is_fdep : ℕ → Bool) (inputs : List Numbered)
    → (if drops then [] else places_where is_fdep inputs) ≡ []
    → All (λ input. is_fdep input.number ≡ false) (kept_by drops is_fdep inputs)
kept_read true is_fdep inputs none =
    All-weaker (λ (input : Numbered). not (is_fdep input.number) ≡ true)
    (λ (input : Numbered). is_fdep input.number ≡ false)
    (λ input kept. not-true (is_fdep input.number) kept)
    (kept_by true is_fdep inputs) (filter_passes (λ (input : Numbered). not (is_fdep input.number)) inputs)
kept_read false is_fdep inputs none =
    none_pass (λ (input : Numbered). input.place) (λ (input : Numbered). is_fdep input.number) inputs none

some_left : (inputs : List Numbered) → is_empty inputs ≡ false → 1 ≤ length (numbers inputs)
some_left [] none = absurd cc
some_left (input ∷ inputs) some = omega arith

-- ---- units after the first

after_first : (applies : Bool) (units : ℕ) (inputs : List Numbered)
    → (if applies then places_where (is_gate units) (drop 1 inputs) else []) ≡ []
    → All (IsUnitNumber units) (dependents_by applies inputs)
after_first true units inputs none =
    All-weaker (λ (input : Numbered). is_gate units input.number ≡ false) (IsUnitNumber units)
    (λ input low. ltb-false units input.number low) (drop 1 inputs)
    (none_pass (λ (input : Numbered). input.place) (λ (input : Numbered). is_gate units input.number) (drop 1 inputs)
    none)
after_first false units inputs none = All-nil (IsUnitNumber units)

-- the dependents of all gates are units, where none is answered as a gate
pub unit_dependents : (units : ℕ) (gates : List NumberedGate) → dependent_gates units gates ≡ []
    → HasUnitDependents units gates
unit_dependents units gates none k d short =
    after_first (is_fdep_kind (get_or gates k d).kind) units (get_or gates k d).inputs
    (none_each (gates_after_first is_fdep_kind units) gates none k d short)

module _ (tree : FaultTree) {units nodes : ℕ} (units_are : unit_count tree ≡ units)
    (nodes_are : node_count tree ≡ nodes) where
  node : (input : Numbered) → IsAmong nodes input → IsNodeOf tree input.number
  node input known = (known.0, omega (arith, known.1, nodes_are))

  has_units : {least : ℕ} (inputs : List Numbered) → least ≤ length inputs → All (IsAmong nodes) inputs
      → All (IsUnitNumber units) (drop 1 inputs) → HasUnitsAfterFirst tree least (numbers inputs)
  has_units inputs enough known low = record {
    enough = omega (arith, enough, length-map inputs (λ (input : Numbered). input.number));
    units =
        All-same (IsUnitOf tree) (drop 1 (numbers inputs)) (numbers (drop 1 inputs))
        (drop-map (λ (input : Numbered). input.number) 1 inputs)
        (All-map (IsUnitOf tree) (λ (input : Numbered). input.number) (drop 1 inputs)
        (λ k d short. (
          (All-drop (IsAmong nodes) 1 inputs known k d short).0,
          omega (arith, low k d short, units_are),
        )));
  }

  sound_vote : {least of : ℕ} (inputs : List Numbered) → (least ≤ 999999999) × (of ≤ 999999999)
      → (least == 0 || nat_lt of least || not (of == length inputs)) ≡ false → IsSoundVote least of (numbers inputs)
  sound_vote {least} {of} inputs short right =
      let both = or_parts (least == 0 || nat_lt of least) (not (of == length inputs)) right in
      let front = or_parts (least == 0) (nat_lt of least) both.0 in
      let positive : least ≢ 0 = eqb-false least 0 front.0 in
      let equal : of ≡ length inputs = eqb-true of (length inputs) (not-false (of == length inputs) both.1) in
      record {
        some = omega arith;
        enough = ltb-false of least front.1;
        counted = equal ∙ sym (length-map inputs (λ (input : Numbered). input.number));
        short = short.1;
      }

  some_spares : (inputs : List Numbered) → is_empty inputs ≡ false → 1 ≤ length inputs
  some_spares inputs some = omega (arith, some_left inputs some, length-map inputs (λ (input : Numbered). input.number))

  sound_kind : (all_kinds : List GateKind) (kind : GateKind) (inputs : List Numbered) → All (IsAmong nodes) inputs
      → HasShortNumbers kind
      → wrong_vote kind (length inputs) ≡ false
      → (not (is_fdep_kind kind) && is_empty (kept_by (drops_fdeps kind) (is_fdep_in units all_kinds) inputs)) ≡ false
      → (is_fdep_kind kind && nat_lt (length inputs) 2) ≡ false
      → (if is_fdep_kind kind then places_where (is_gate units) (drop 1 inputs) else []) ≡ []
      → (if is_spare_kind kind then places_where (is_gate units) (drop 1 inputs) else []) ≡ []
      → IsSoundKind tree kind (numbers (kept_by (drops_fdeps kind) (is_fdep_in units all_kinds) inputs))
  sound_kind all_kinds And inputs known short votes some two dependents spares =
      some_left (kept_by true (is_fdep_in units all_kinds) inputs) some
  sound_kind all_kinds Or inputs known short votes some two dependents spares =
      some_left (kept_by true (is_fdep_in units all_kinds) inputs) some
  sound_kind all_kinds (Votes least of) inputs known short votes some two dependents spares =
      sound_vote inputs short votes
  sound_kind all_kinds Pand inputs known short votes some two dependents spares = some_left inputs some
  sound_kind all_kinds Por inputs known short votes some two dependents spares = some_left inputs some
  sound_kind all_kinds Seq inputs known short votes some two dependents spares = some_left inputs some
  sound_kind all_kinds Fdep inputs known short votes some two dependents spares =
      has_units inputs (ltb-false (length inputs) 2 two) known (after_first true units inputs dependents)
  sound_kind all_kinds Csp inputs known short votes some two dependents spares =
      has_units inputs (some_spares inputs some) known (after_first true units inputs spares)
  sound_kind all_kinds Wsp inputs known short votes some two dependents spares =
      has_units inputs (some_spares inputs some) known (after_first true units inputs spares)
  sound_kind all_kinds Hsp inputs known short votes some two dependents spares =
      has_units inputs (some_spares inputs some) known (after_first true units inputs spares)

  -- whether a node is an `fdep`
  pub fdep_same : (number : ℕ) → is_fdep tree number ≡ is_fdep_in units tree.kinds number
  fdep_same number =
      ap (λ u. nat_lt u number && is_fdep_kind (slice_index_or tree.kinds (number - u - 1) Fdep)) units_are

  sound_gate : (gate : NumberedGate) → IsGood units nodes tree.kinds gate
      → IsSoundGate tree (kept_gate units tree.kinds gate)
  sound_gate gate good = record {
    nodes = All-map (IsNodeOf tree) (λ (input : Numbered). input.number) (kept_inputs units tree.kinds gate)
        (kept_all (λ input. IsNodeOf tree input.number) (drops_fdeps gate.kind) (is_fdep_in units tree.kinds)
        gate.inputs
        (All-weaker (IsAmong nodes) (λ (input : Numbered). IsNodeOf tree input.number) node gate.inputs good.known));
    read =
        All-map (λ number. is_fdep tree number ≡ false) (λ (input : Numbered). input.number)
        (kept_inputs units tree.kinds gate)
        (All-weaker (λ (input : Numbered). is_fdep_in units tree.kinds input.number ≡ false)
        (λ (input : Numbered). is_fdep tree input.number ≡ false)
        (λ input not_one. fdep_same input.number ∙ not_one)
        (kept_inputs units tree.kinds gate) (kept_read (drops_fdeps gate.kind) (is_fdep_in units tree.kinds) gate.inputs
        good.no_dummies));
    kind =
        sound_kind tree.kinds gate.kind gate.inputs good.known good.short good.votes good.some good.two good.dependents
        good.spares;
  }

  pub sound_gates : (gates : List NumberedGate) → All (IsGood units nodes tree.kinds) gates
      → All (IsSoundGate tree) (kept_gates units tree.kinds gates)
  sound_gates gates good =
      All-map (IsSoundGate tree) (kept_gate units tree.kinds) gates
      (All-weaker (IsGood units nodes tree.kinds) (λ (gate : NumberedGate). IsSoundGate tree
      (kept_gate units tree.kinds gate)) sound_gate gates good)
