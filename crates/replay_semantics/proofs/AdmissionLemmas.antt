-- Whether the longer order can happen: where the shorter one can, the unit was awaited, and the gates that ask for it
-- fail in turn.
use Rattle.std.proofs.Common.{◌≡◌, ◌⊎◌, ℕ, zero, suc, ◌<◌, Bool, true, false, not, ◌==◌, ◌&&◌, ◌||◌, List, [], ◌∷◌}
use Rattle.std.proofs.Common.{◌++◌, length, drop, get_or, All, Some, is_some, refl, arith, ap, sym, ◌∙◌, inl, inr}
use Rattle.std.specs.List.{list_all}
use Rattle.std.proofs.lemmas.Bool.{cases_Bool, or_left, or_right, and_from, and_parts, eq-eqb, cond-true, cond-false}
use Rattle.std.proofs.lemmas.Bool.{ltb-true, lt-ltb}
use Rattle.std.proofs.lemmas.List.Elements.{All-head, All-tail}
use Rattle.unit_sets.specs.UnitList.{among}
use Rattle.fault_words.specs.declared.kind.GateKind.{GateKind}
use Rattle.fault_words.specs.declared.kind.GateKind.TheVariants.{Seq, Csp}
use Rattle.fault_definitions.specs.Tree.{FaultTree, IsNodeOf, IsGateOf, kind_of, inputs_of, is_above_units, unit_count}
use Rattle.fault_definitions.specs.{Trigger.below, Trigger.triggers_of, WellFormed.IsTree, FailingOrder.gate_admits}
use Rattle.fault_definitions.specs.{FailingOrder.is_admissible}
use Rattle.fault_definitions.proofs.{RankLaws.inputs_are_nodes, StepLaws.never_falls-agree}
use Rattle.fault_definitions.specs.Step.{Step, never, step}
use Rattle.replay_semantics.specs.Admission.{is_awaited, gate_awaits, gate_in_turn, node_awaits, node_in_turn}
use Rattle.replay_semantics.specs.Admission.{all_in_turn}
use Rattle.replay_semantics.proofs.{FailingLemmas.same_test, StepGrowth.step-grows, StepGrowth.step-at_most}
use Rattle.replay_semantics.specs.{Growth.AllGrow, Readers.readers_in, Readers.AreReaders, Spread.HaveFailed}
use Rattle.replay_semantics.specs.{Table.step_in, Table.HoldsSteps}
use Rattle.replay_semantics.proofs.AdmissionLaws.{gates-at, gates-from, list_all-among, list_all-from_all, admits_back}
use Rattle.replay_semantics.proofs.AdmissionLaws.{awaits_from, in_turn_from, was_in_turn, admits_next, awaits_elsewhere}

-- ---- steps that agree on the inputs

is_awaited-agree : (f h : ℕ → Step) (unit : ℕ) (failed : Bool) (inputs : List ℕ) → All (λ n. f n ≡ h n) inputs
    → is_awaited f unit failed inputs ≡ is_awaited h unit failed inputs
is_awaited-agree f h unit failed [] same = refl
is_awaited-agree f h unit failed (input ∷ inputs) same =
    ap (λ (s : Step). (not (input == unit) || failed) && is_awaited f unit (failed && is_some s) inputs)
    (All-head (λ n. f n ≡ h n) input inputs same)
    ∙ ap (λ b. (not (input == unit) || failed) && b)
    (is_awaited-agree f h unit (failed && is_some (h input)) inputs (All-tail (λ n. f n ≡ h n) input inputs same))

gate_awaits-agree : (f h : ℕ → Step) (unit : ℕ) (kind : GateKind) (inputs : List ℕ) → All (λ n. f n ≡ h n) inputs
    → gate_awaits f unit kind inputs ≡ gate_awaits h unit kind inputs
gate_awaits-agree f h unit Csp inputs same = is_awaited-agree f h unit true inputs same
gate_awaits-agree f h unit _ inputs same = refl

gate_in_turn-agree : (f h : ℕ → Step) (kind : GateKind) (inputs : List ℕ) → All (λ n. f n ≡ h n) inputs
    → gate_in_turn f kind inputs ≡ gate_in_turn h kind inputs
gate_in_turn-agree f h Seq inputs same = never_falls-agree f h inputs same
gate_in_turn-agree f h _ inputs same = refl

-- ---- the whole tree

-- some of the nodes are among others, or none is
some_or_none : (nodes others : List ℕ) → ((n : ℕ) × (among nodes n ≡ true) × (among others n ≡ true))
    ⊎ All (λ n. among nodes n ≡ false) others
some_or_none nodes [] = inr (λ k d short. absurd (omega arith))
some_or_none nodes (other ∷ others) =
    elim (cases_Bool (among nodes other)) [
      | inl has ↦ inl (other, has, or_left (other == other) _ (eq-eqb other other refl))
      | inr lacks ↦ elim (some_or_none nodes others) [
        | inl found ↦ inl (found.0, found.1, or_right (other == found.0) _ found.2)
        | inr none ↦ inr (both lacks none)
      ]
    ]
  where
    both : among nodes other ≡ false → All (λ n. among nodes n ≡ false) others
        → All (λ n. among nodes n ≡ false) (other ∷ others)
    both lacks none zero d short = lacks
    both lacks none (suc k) d short = none k d (omega arith)

module _ (tree : FaultTree) (kept : IsTree tree) (rows : List (List ℕ)) (readers : AreReaders tree rows)
    (order : List ℕ) (unit : ℕ) (fresh : among order unit ≡ false)
    (before after : List Step) (holds : HoldsSteps tree order before) (log log' : List ℕ)
    (failed : HaveFailed tree (order ++ unit ∷ []) before after log log') where
  abbrev f : ℕ → Step
  f = step tree order

  abbrev g : ℕ → Step
  g = step tree (order ++ unit ∷ [])

  low_steps : (node n : ℕ) → f node ≡ Some n → n < suc (length order)
  low_steps node n is = let low = step-at_most tree order node n is in omega arith

  grow : AllGrow (suc (length order)) f g
  grow = step-grows tree order unit

  abbrev awaited : Bool
  awaited = list_all (node_awaits tree (step_in before) unit) (readers_in rows unit)

  abbrev in_turn : Bool
  in_turn = all_in_turn tree rows after (drop (length log) log')

  gate_above : (gate : ℕ) → IsGateOf tree gate → is_above_units tree gate ≡ true
  gate_above gate is_gate = lt-ltb (unit_count tree) gate is_gate.0

  gate_is_node : (gate : ℕ) → IsGateOf tree gate → IsNodeOf tree gate
  gate_is_node gate is_gate = (omega (arith, is_gate.0), is_gate.1)

  below_gate : (gate : ℕ) → IsGateOf tree gate → below tree gate ≡ inputs_of tree gate
  below_gate gate is_gate =
      cond-true (is_above_units tree gate) (inputs_of tree gate) (triggers_of tree gate) (gate_above gate is_gate)

  inputs_before : (gate : ℕ) → IsGateOf tree gate → All (λ n. step_in before n ≡ f n) (inputs_of tree gate)
  inputs_before gate is_gate k d short =
      holds (get_or (inputs_of tree gate) k d) (inputs_are_nodes kept gate (gate_above gate is_gate) k d short)

  inputs_after : (gate : ℕ) → IsGateOf tree gate → All (λ n. step_in after n ≡ g n) (inputs_of tree gate)
  inputs_after gate is_gate k d short =
      failed.holds (get_or (inputs_of tree gate) k d) (inputs_are_nodes kept gate (gate_above gate is_gate) k d short)

  node_awaits-gate : (gate : ℕ) → IsGateOf tree gate
      → node_awaits tree (step_in before) unit gate ≡ gate_awaits f unit (kind_of tree gate) (inputs_of tree gate)
  node_awaits-gate gate is_gate =
      cond-true (is_above_units tree gate) (gate_awaits (step_in before) unit (kind_of tree gate) (inputs_of tree gate))
      true (gate_above gate is_gate)
      ∙ gate_awaits-agree (step_in before) f unit (kind_of tree gate) (inputs_of tree gate) (inputs_before gate is_gate)

  node_in_turn-gate : (gate : ℕ) → IsGateOf tree gate
      → node_in_turn tree (step_in after) gate ≡ gate_in_turn g (kind_of tree gate) (inputs_of tree gate)
  node_in_turn-gate gate is_gate =
      cond-true (is_above_units tree gate) (gate_in_turn (step_in after) (kind_of tree gate) (inputs_of tree gate)) true
      (gate_above gate is_gate)
      ∙ gate_in_turn-agree (step_in after) g (kind_of tree gate) (inputs_of tree gate) (inputs_after gate is_gate)

  -- a node is a gate, or no gate asks anything of it
  node_awaits-each : (node : ℕ) → IsNodeOf tree node
      → ((gate : ℕ) → IsGateOf tree gate → gate_awaits f unit (kind_of tree gate) (inputs_of tree gate) ≡ true)
      → node_awaits tree (step_in before) unit node ≡ true
  node_awaits-each node is_node each =
      elim (cases_Bool (is_above_units tree node)) [
        | inl above ↦ let is_gate : IsGateOf tree node =
            (ltb-true (unit_count tree) node above, is_node.1) in node_awaits-gate node is_gate ∙ each node is_gate
        | inr low ↦ cond-false (is_above_units tree node)
            (gate_awaits (step_in before) unit (kind_of tree node) (inputs_of tree node)) true low
      ]

  node_in_turn-each : (node : ℕ) → IsNodeOf tree node
      → ((gate : ℕ) → IsGateOf tree gate → gate_in_turn g (kind_of tree gate) (inputs_of tree gate) ≡ true)
      → node_in_turn tree (step_in after) node ≡ true
  node_in_turn-each node is_node each =
      elim (cases_Bool (is_above_units tree node)) [
        | inl above ↦ let is_gate : IsGateOf tree node =
            (ltb-true (unit_count tree) node above, is_node.1) in node_in_turn-gate node is_gate ∙ each node is_gate
        | inr low ↦ cond-false (is_above_units tree node)
            (gate_in_turn (step_in after) (kind_of tree node) (inputs_of tree node)) true low
      ]

  to : is_admissible tree (order ++ unit ∷ []) ≡ true → (is_admissible tree order && (awaited && in_turn)) ≡ true
  to admits =
      let each : (gate : ℕ) → IsGateOf tree gate → gate_admits g (order ++ unit ∷ [])
      (kind_of tree gate, inputs_of tree gate) ≡ true = gates-at kept (gate_admits g (order ++ unit ∷ [])) admits in
      and_from (is_admissible tree order) (awaited && in_turn) (gates-from kept (gate_admits f order) (λ gate is_gate.
      admits_back order unit fresh grow low_steps (kind_of tree gate) (inputs_of tree gate) (each gate is_gate)))
      (and_from awaited in_turn
      (list_all-from_all (node_awaits tree (step_in before) unit) (readers_in rows unit) (λ k d short.
      node_awaits-each (get_or (readers_in rows unit) k d) (readers.nodes unit k d short)
      (λ gate is_gate. awaits_from order unit fresh grow low_steps (kind_of tree gate) (inputs_of tree gate)
      (each gate is_gate))))
      (list_all-from_all (λ node. list_all (node_in_turn tree (step_in after)) (readers_in rows node))
      (drop (length log) log') (λ k d short.
      let node : ℕ = get_or (drop (length log) log') k d in
      list_all-from_all (node_in_turn tree (step_in after)) (readers_in rows node) (λ j e within.
      node_in_turn-each (get_or (readers_in rows node) j e) (readers.nodes node j e within)
      (λ gate is_gate. in_turn_from order unit fresh grow low_steps (kind_of tree gate) (inputs_of tree gate)
      (each gate is_gate))))))

  unchanged : (node : ℕ) → IsNodeOf tree node → among (drop (length log) log') node ≡ false → g node ≡ f node
  unchanged node is_node lacks =
      sym (failed.holds node is_node)
      ∙ sym (cond-false (among (drop (length log) log') node) never (step_in after node) lacks)
      ∙ failed.undone node ∙ holds node is_node

  gate_next : is_admissible tree order ≡ true → awaited ≡ true → in_turn ≡ true → (gate : ℕ) → IsGateOf tree gate
      → gate_admits g (order ++ unit ∷ []) (kind_of tree gate, inputs_of tree gate) ≡ true
  gate_next admits awaits turn gate is_gate =
      let was : gate_admits f order (kind_of tree gate, inputs_of tree gate) ≡ true =
      gates-at kept (gate_admits f order) admits gate is_gate in
      admits_next order unit fresh grow low_steps (kind_of tree gate) (inputs_of tree gate) was
      (elim (cases_Bool (among (inputs_of tree gate) unit)) [
        | inl has ↦
            let listed : among (readers_in rows unit) gate ≡ true =
            readers.listed unit gate (gate_is_node gate is_gate)
            (ap (λ xs. among xs unit) (below_gate gate is_gate) ∙ has) in
            sym (node_awaits-gate gate is_gate) ∙ list_all-among (node_awaits tree (step_in before) unit)
            (readers_in rows unit) gate awaits listed
        | inr lacks ↦ awaits_elsewhere order unit fresh grow low_steps (kind_of tree gate) (inputs_of tree gate) lacks
      ])
      (elim (some_or_none (drop (length log) log') (inputs_of tree gate)) [
        | inl found ↦
            let listed : among (readers_in rows found.0) gate ≡ true =
            readers.listed found.0 gate (gate_is_node gate is_gate)
            (ap (λ xs. among xs found.0) (below_gate gate is_gate) ∙ found.2) in
            sym (node_in_turn-gate gate is_gate)
            ∙ list_all-among (node_in_turn tree (step_in after)) (readers_in rows found.0) gate
            (list_all-among (λ node. list_all (node_in_turn tree (step_in after)) (readers_in rows node))
            (drop (length log) log') found.0 turn found.1) listed
        | inr none ↦
            gate_in_turn-agree g f (kind_of tree gate) (inputs_of tree gate)
            (λ k d short. unchanged (get_or (inputs_of tree gate) k d)
            (inputs_are_nodes kept gate (gate_above gate is_gate) k d short) (none k d short))
            ∙ was_in_turn order unit fresh grow low_steps (kind_of tree gate) (inputs_of tree gate) was
      ])

  from : (is_admissible tree order && (awaited && in_turn)) ≡ true → is_admissible tree (order ++ unit ∷ []) ≡ true
  from h =
      let parts = and_parts (is_admissible tree order) (awaited && in_turn) h in
      let both = and_parts awaited in_turn parts.1 in
      gates-from kept (gate_admits g (order ++ unit ∷ [])) (gate_next parts.0 both.0 both.1)

  -- the longer order can happen exactly where the shorter one can, the unit was awaited, and all that reads a failed
  -- node is in turn
  pub admissible_next : is_admissible tree (order ++ unit ∷ [])
      ≡ (is_admissible tree order && (list_all (node_awaits tree (step_in before) unit) (readers_in rows unit)
      && all_in_turn tree rows after (drop (length log) log')))
  admissible_next =
      same_test (is_admissible tree (order ++ unit ∷ [])) (is_admissible tree order && (awaited && in_turn)) to from

-- ---- what the two tests say together

pub fits_awaited : (admits : Bool) {first second result : Bool} → first ≡ true → second ≡ result
    → (admits && (first && second)) ≡ (admits && result)
fits_awaited admits {second} is same = ap (λ b. admits && (b && second)) is ∙ ap (λ b. admits && b) same

pub fits_not : (admits : Bool) {first : Bool} (second : Bool) {result : Bool} → first ≡ result → result ≡ false
    → (admits && (first && second)) ≡ (admits && result)
fits_not admits second same none =
    ap (λ b. admits && (b && second)) (same ∙ none) ∙ ap (λ b. admits && b) (sym none)
