-- What a node reads are numbers that stand among the inputs of gates.
use Rattle.std.proofs.Common.{◌≡◌, ℕ, zero, suc, ◌+◌, ◌-◌, Bool, true, false, not, List, [], ◌∷◌, map, filter, refl}
use Rattle.std.proofs.Common.{sym, ap, ◌∙◌, subst, inl, inr, arith}
use Rattle.std.specs.Prelude.{◌||◌, ◌==◌, All, filter_map, Option, Some, None, if◌then◌else◌, slice_index_or}
use Rattle.std.specs.List.{cons_option}
use Rattle.std.proofs.lemmas.List.Elements.{All-head, All-tail}
use Rattle.std.proofs.lemmas.Bool.{cases_Bool, cases_lt, or_cases, eqb-true}
use Rattle.unit_sets.specs.UnitList.{among}
use Rattle.fault_words.specs.declared.kind.GateKind.{GateKind}
use Rattle.fault_words.specs.declared.kind.GateKind.TheVariants.{And, Or, Votes, Pand, Por, Seq, Fdep, Csp, Wsp, Hsp}
use Rattle.fault_definitions.specs.Trigger.{trigger_by}
use Rattle.graph_cycles.specs.Graph.{successors}
use Rattle.tree_check.specs.{declared.numbered.Numbered.Numbered, declared.numbered.NumberedGate.NumberedGate}
use Rattle.tree_check.specs.{TreeOf.numbers, TreeOf.input_lists}
use Rattle.tree_check.specs.Numbered.{kinds, kept_inputs, kept_by, drops_fdeps, is_fdep_in}
use Rattle.tree_check.specs.Triggers.{row_at, written_gate, IsGraphOf}
use Rattle.std.proofs.lemmas.List.{get_or_append_left, get_or-append_right}

-- every input of every gate has a number of some kind
abbrev pub Each : (ℕ → Type 0) → List NumberedGate → Type 0
Each P gates = All (λ gate. All (λ input. P input.number) gate.inputs) gates

module _ (P : ℕ → Type 0) where
  pub among_numbers : (inputs : List Numbered) (y : ℕ) → All (λ input. P input.number) inputs
      → among (numbers inputs) y ≡ true → P y
  among_numbers [] y all found = absurd cc
  among_numbers (input ∷ inputs) y all found = elim (or_cases (input.number == y) (among (numbers inputs) y) found) [
    | inl here ↦ subst P (eqb-true input.number y here) (All-head (λ (i : Numbered). P i.number) input inputs all)
    | inr later ↦ among_numbers inputs y (All-tail (λ (i : Numbered). P i.number) input inputs all) later
  ]

  filtered : (keep : Numbered → Bool) (inputs : List Numbered) → All (λ input. P input.number) inputs → (y : ℕ)
      → among (numbers (filter keep inputs)) y ≡ true → P y
  filtered keep [] all y found = absurd cc
  filtered keep (input ∷ inputs) all y found = elim (cases_Bool (keep input)) [
    | inl kept ↦
        let is : filter keep (input ∷ inputs) ≡ input ∷ filter keep inputs =
        ap (λ b. if b then input ∷ filter keep inputs else filter keep inputs) kept in
        elim (or_cases (input.number == y) (among (numbers (filter keep inputs)) y)
        (sym (ap (λ l. among (numbers l) y) is) ∙ found)) [
          | inl here ↦ subst P (eqb-true input.number y here) (All-head (λ (i : Numbered). P i.number) input inputs all)
          | inr later ↦ filtered keep inputs (All-tail (λ (i : Numbered). P i.number) input inputs all) y later
        ]
    | inr dropped ↦
        let is : filter keep (input ∷ inputs) ≡ filter keep inputs =
        ap (λ b. if b then input ∷ filter keep inputs else filter keep inputs) dropped in
        filtered keep inputs (All-tail (λ (i : Numbered). P i.number) input inputs all) y
        (sym (ap (λ l. among (numbers l) y) is) ∙ found)
  ]

  kept : (drops : Bool) (is_fdep : ℕ → Bool) (inputs : List Numbered) → All (λ input. P input.number) inputs → (y : ℕ)
      → among (numbers (kept_by drops is_fdep inputs)) y ≡ true → P y
  kept true is_fdep inputs all y found = filtered (λ (input : Numbered). not (is_fdep input.number)) inputs all y found
  kept false is_fdep inputs all y found = among_numbers inputs y all found

  triggers_first : (unit : ℕ) (inputs : List Numbered) → All (λ input. P input.number) inputs → (y : ℕ)
      → (kind : GateKind) → (t : Option ℕ) → trigger_by unit (kind, numbers inputs) ≡ t
      → among (cons_option t []) y ≡ true → P y
  triggers_first unit inputs all y kind None is found = absurd cc
  triggers_first unit [] all y Fdep (Some t) is found = absurd cc
  triggers_first unit (input ∷ inputs) all y Fdep (Some t) is found = elim (cases_Bool (among (numbers inputs) unit)) [
    | inl dependent ↦
        let first_is : Some input.number ≡ Some t =
        sym (ap (λ b. if b then Some input.number else None) dependent) ∙ is in
        let same : input.number ≡ t = cc in
        elim (or_cases (t == y) false found) [
          | inl here ↦ subst P (same ∙ eqb-true t y here) (All-head (λ (i : Numbered). P i.number) input inputs all)
          | inr never ↦ absurd cc
        ]
    | inr other ↦
        let none_is : None ≡ Some t = sym (ap (λ b. if b then Some input.number else None) other) ∙ is in
        absurd cc
  ]
  triggers_first unit inputs all y And (Some t) is found = absurd cc
  triggers_first unit inputs all y Or (Some t) is found = absurd cc
  triggers_first unit inputs all y (Votes least of) (Some t) is found = absurd cc
  triggers_first unit inputs all y Pand (Some t) is found = absurd cc
  triggers_first unit inputs all y Por (Some t) is found = absurd cc
  triggers_first unit inputs all y Seq (Some t) is found = absurd cc
  triggers_first unit inputs all y Csp (Some t) is found = absurd cc
  triggers_first unit inputs all y Wsp (Some t) is found = absurd cc
  triggers_first unit inputs all y Hsp (Some t) is found = absurd cc

  or_assoc_false : (a b : Bool) → (a || b) ≡ ((a || false) || b)
  or_assoc_false true b = refl
  or_assoc_false false b = refl

  split_option : (t : Option ℕ) (ts : List ℕ) (y : ℕ)
      → among (cons_option t ts) y ≡ (among (cons_option t []) y || among ts y)
  split_option None ts y = refl
  split_option (Some x) ts y = or_assoc_false (x == y) (among ts y)

  among_triggers : (unit : ℕ) (gates : List NumberedGate) → Each P gates → (y : ℕ)
      → among (filter_map (trigger_by unit) (map written_gate gates)) y ≡ true → P y
  among_triggers unit [] all y found = absurd cc
  among_triggers unit (gate ∷ gates) all y found =
      elim (or_cases (among (cons_option (trigger_by unit (written_gate gate)) []) y)
      (among (filter_map (trigger_by unit) (map written_gate gates)) y)
      (sym (split_option (trigger_by unit (written_gate gate)) (filter_map (trigger_by unit) (map written_gate gates))
      y) ∙ found)) [
        | inl here ↦ triggers_first unit gate.inputs (All-head
            (λ (g : NumberedGate). All (λ input. P input.number) g.inputs) gate gates all) y gate.kind
            (trigger_by unit (written_gate gate)) refl here
        | inr later ↦ among_triggers unit gates (All-tail (λ (g : NumberedGate). All (λ input. P input.number) g.inputs)
            gate gates all) y later
      ]

  among_inputs : (units : ℕ) (all_kinds : List GateKind) (gates : List NumberedGate) → Each P gates → (k y : ℕ)
      → among (slice_index_or (map (λ gate. numbers (kept_inputs units all_kinds gate)) gates) k []) y ≡ true → P y
  among_inputs units all_kinds [] all k y found = absurd cc
  among_inputs units all_kinds (gate ∷ gates) all zero y found =
      kept (drops_fdeps gate.kind) (is_fdep_in units all_kinds) gate.inputs
      (All-head (λ (g : NumberedGate). All (λ input. P input.number) g.inputs) gate gates all) y found
  among_inputs units all_kinds (gate ∷ gates) all (suc k) y found =
      among_inputs units all_kinds gates (All-tail (λ (g : NumberedGate). All (λ input. P input.number) g.inputs) gate
      gates all) k y found

  -- a successor in the graph is the number of an input
  pub successor_is : {units : ℕ} {gates : List NumberedGate} {graph : List (List ℕ)} → IsGraphOf units gates graph
      → Each P gates
      → (x y : ℕ) → among (successors graph x) y ≡ true → P y
  successor_is {units} {gates} {graph} g all x y found = elim (cases_lt x (units + 1)) [
    | inl unit ↦
        let row : successors graph x ≡ row_at g.rows x =
        ap (λ gr. slice_index_or gr x []) g.is ∙ get_or_append_left g.rows (input_lists units gates) [] x
        (omega (arith, g.triggers.all)) in
        among_triggers x gates all y (sym (g.triggers.triggers x y) ∙ (sym (ap (λ r. among r y) row) ∙ found))
    | inr above ↦
        let row : successors graph x ≡ slice_index_or (input_lists units gates) (x - (units + 1)) [] =
        ap (λ gr. slice_index_or gr x []) g.is ∙ get_or-append_right g.rows (input_lists units gates) (units + 1) x []
        g.triggers.all above in
        among_inputs units (kinds gates) gates all (x - (units + 1)) y (sym (ap (λ r. among r y) row) ∙ found)
  ]
