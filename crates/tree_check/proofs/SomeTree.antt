-- Statements that keep their form stand for a tree, or one of the classes of faults occurs first.
use Rattle.std.proofs.Common.{◌≡◌, ℕ, ◌+◌, ◌<◌, ◌≤◌, ◌⊎◌, Bool, true, false, List, [], ◌∷◌, ◌++◌, map, drop, refl}
use Rattle.std.proofs.Common.{sym, ap, ◌∙◌, inl, inr, arith}
use Rattle.std.specs.Prelude.{◌==◌, All, Option, Some, None, filter_map}
use Rattle.std.specs.List.{cons_option, range_with_len}
use Rattle.std.proofs.lemmas.Bool.{cases_lt, cond-false, or_from}
use Rattle.std.proofs.lemmas.List.{get_or_past}
use Rattle.std.proofs.lemmas.List.FromFn.{get_or-map-range_with_len, length-map-range_with_len}
use Rattle.std.proofs.lemmas.List.Elements.{All-head, All-tail}
use Rattle.unit_sets.specs.UnitList.{among}
use Rattle.fault_words.specs.{declared.kind.GateKind.GateKind, declared.place.Place.Place, Names.all_differ}
use Rattle.fault_words.specs.declared.kind.GateKind.TheVariants.{And, Or, Votes, Pand, Por, Seq, Fdep, Csp, Wsp, Hsp}
use Rattle.fault_definitions.specs.{Tree.FaultTree, Tree.is_fdep_kind, Trigger.trigger_by, WellFormed.IsTree}
use Rattle.graph_cycles.proofs.Surveys.{survey_exists}
use Rattle.galileo_tree.specs.ReadTree.{ReadTree, KeepsForm}
use Rattle.tree_check.specs.{declared.fault.CheckCode.CheckCode, declared.fault.CheckCode.TheVariants.Cycle}
use Rattle.tree_check.specs.{declared.numbered.Numbered.Numbered, declared.numbered.NumberedGate.NumberedGate}
use Rattle.tree_check.specs.{Classes.first, Marked.marked_places, Numbered.numbered_gates, Numbered.unit_total}
use Rattle.tree_check.specs.{Said.definitions, Said.names}
use Rattle.tree_check.specs.Checked.{IsFirstFault, NoneOf, Stands, after_cycles, before_cycles, places}
use Rattle.tree_check.specs.TreeOf.{AreRanks, FirstOnCycle, HasNoCycle, IsSurveyed, input_lists, numbers, tree_of}
use Rattle.tree_check.specs.Triggers.{HasUnitDependents, IsGraphOf, dependents_by, row_at, written_gate}
use Rattle.tree_check.proofs.{Differ.differ-names, Differ.differ-repeats, Faultless.IsTree-faultless, Refusals.AreFirst}
use Rattle.tree_check.proofs.{Refusals.NoneOf-append, GoodGates.unit_dependents, StatementNames.inputs_known}
use Rattle.tree_check.proofs.Surveyed.{IsGraph-of, is_surveyed, are_ranks, cycle_found, no_cycle}

-- ---- the graph of what each node reads

none_among : (units unit : ℕ) (inputs : List Numbered) → All (λ input. input.number ≤ units) inputs → units < unit
    → among (numbers inputs) unit ≡ false
none_among units unit [] low above = refl
none_among units unit (input ∷ inputs) low above =
    let here : input.number ≤ units = All-head (λ (i : Numbered). i.number ≤ units) input inputs low in
    let differs : (input.number == unit) ≡ false = grind arith in
    or_from (input.number == unit) (among (numbers inputs) unit) differs
    (none_among units unit inputs (All-tail (λ (i : Numbered). i.number ≤ units) input inputs low) above)

none_triggers : (units unit : ℕ) (kind : GateKind) (inputs : List Numbered)
    → All (λ input. input.number ≤ units) (dependents_by (is_fdep_kind kind) inputs) → units < unit
    → trigger_by unit (kind, numbers inputs) ≡ None
none_triggers units unit Fdep [] low above = refl
none_triggers units unit Fdep (trigger ∷ dependents) low above =
    cond-false (among (numbers dependents) unit) (Some trigger.number) None (none_among units unit dependents low above)
none_triggers units unit And inputs low above = refl
none_triggers units unit Or inputs low above = refl
none_triggers units unit (Votes least of) inputs low above = refl
none_triggers units unit Pand inputs low above = refl
none_triggers units unit Por inputs low above = refl
none_triggers units unit Seq inputs low above = refl
none_triggers units unit Csp inputs low above = refl
none_triggers units unit Wsp inputs low above = refl
none_triggers units unit Hsp inputs low above = refl

untriggered : (units unit : ℕ) (gates : List NumberedGate) → HasUnitDependents units gates → units < unit
    → filter_map (trigger_by unit) (map written_gate gates) ≡ []
untriggered units unit [] low above = refl
untriggered units unit (gate ∷ gates) low above =
    ap (λ t. cons_option t (filter_map (trigger_by unit) (map written_gate gates)))
    (none_triggers units unit gate.kind gate.inputs
    (All-head (λ (g : NumberedGate). All (λ (d : Numbered). d.number ≤ units)
    (dependents_by (is_fdep_kind g.kind) g.inputs)) gate gates low) above)
    ∙ untriggered units unit gates (All-tail (λ (g : NumberedGate). All (λ (d : Numbered). d.number ≤ units)
    (dependents_by (is_fdep_kind g.kind) g.inputs)) gate gates low) above

module _ (units : ℕ) (gates : List NumberedGate) (low : HasUnitDependents units gates) where
  abbrev triggers_at : ℕ → List ℕ
  triggers_at unit = filter_map (trigger_by unit) (map written_gate gates)

  abbrev trigger_rows : List (List ℕ)
  trigger_rows = map triggers_at (range_with_len 0 (units + 1))

  row_is : (unit : ℕ) → row_at trigger_rows unit ≡ triggers_at unit
  row_is unit = elim (cases_lt unit (units + 1)) [
    | inl reach ↦ get_or-map-range_with_len triggers_at 0 (units + 1) unit unit [] reach (omega arith)
    | inr past ↦
        get_or_past trigger_rows unit [] (omega (arith, past, length-map-range_with_len triggers_at 0 (units + 1)))
        ∙ sym (untriggered units unit gates low (omega (arith, past)))
  ]

  abbrev graph : List (List ℕ)
  graph = trigger_rows ++ input_lists units gates

  is_graph_of : IsGraphOf units gates graph
  is_graph_of = record {
    rows = trigger_rows;
    is = refl;
    triggers = record {
      all = length-map-range_with_len triggers_at 0 (units + 1);
      triggers = λ unit other. ap (λ row. among row other) (row_is unit);
    };
  }

-- ---- classes one after another

some_or_none : (found : List Place) → (found ≡ []) ⊎ ((place : Place) × (first found ≡ Some place))
some_or_none [] = inl refl
some_or_none (place ∷ more) = inr (place, refl)

abbrev HasFault : ReadTree → Type 0
HasFault read = (code : CheckCode) × (place : Place) × IsFirstFault read code place

abbrev HasTree : ReadTree → Type 0
HasTree read = (tree : FaultTree) × Stands read tree × IsTree tree

-- none of some classes occurs, or the first fault is of the first of them that does
none_or_fault : (read : ReadTree) (earlier later : List CheckCode) → AreFirst read earlier later → NoneOf read earlier
    → NoneOf read later ⊎ HasFault read
none_or_fault read earlier [] are none = inl tt
none_or_fault read earlier (code ∷ later) are none =
    elim (some_or_none (places read code)) [
      | inr (place, is) ↦ inr (code, place, are.0 place (none, is))
      | inl here ↦
          let more = NoneOf-append read earlier (code ∷ []) none (here, tt) in
          elim (none_or_fault read (earlier ++ code ∷ []) later are.1 more) [
            | inl behind ↦ inl (here, behind)
            | inr fault ↦ inr fault
          ]
    ]

also : {A B : Type 0} → A → B → A × B
also a b = (a, b)

module _ (read : ReadTree) where
  before : NoneOf read before_cycles ⊎ HasFault read
  before =
      none_or_fault read [] before_cycles
      (also (λ p f. f) (also (λ p f. f) (also (λ p f. f) (also (λ p f. f) (also (λ p f. f) (also (λ p f. f)
      (also (λ p f. f) (also (λ p f. f) (also (λ p f. f) (also (λ p f. f) (also (λ p f. f) (also (λ p f. f)
      (also (λ p f. f) tt))))))))))))) tt

  -- whether a definition leads to itself
  module _ (none : NoneOf read before_cycles) where
    once : all_differ (names read.statements) ≡ true
    once = differ-names read.statements ∙ differ-repeats [] (definitions read.statements) refl none.1.1.0

    low : HasUnitDependents (unit_total read.statements) (numbered_gates read.statements)
    low = unit_dependents (unit_total read.statements) (numbered_gates read.statements) none.1.1.1.1.1.1.1.1.0

    abbrev read_graph : List (List ℕ)
    read_graph = graph (unit_total read.statements) (numbered_gates read.statements) low

    surveyed : (marks : List Bool) × (ranks : List ℕ) × IsSurveyed read.statements marks ranks
    surveyed =
        let is = is_graph_of (unit_total read.statements) (numbered_gates read.statements) low in
        let known = inputs_known read.statements none.1.1.1.0 in
        let (marks, ranks, survey) = survey_exists read_graph (IsGraph-of read.statements is known) in (
          marks,
          ranks,
          is_surveyed read.statements read_graph marks ranks (record {
            graph_is = is;
            each = known;
            exact = survey.exact;
            ranked = survey.ranked;
            ranks_all = survey.all;
          }),
        )

    some_place : (found : Option Place) → (found ≡ None) ⊎ ((place : Place) × (found ≡ Some place))
    some_place None = inl refl
    some_place (Some place) = inr (place, refl)

    cycles : (HasNoCycle read.statements × (ranks : List ℕ) × AreRanks read.statements ranks)
        ⊎ ((place : Place) × FirstOnCycle read.statements place)
    cycles =
        let (marks, ranks, survey) = surveyed in
        elim (some_place (first (marked_places marks (names read.statements) (definitions read.statements)))) [
          | inl unmarked ↦ inl (
            no_cycle read.statements marks ranks survey unmarked,
            drop 1 ranks,
            are_ranks read.statements marks ranks survey unmarked once,
          )
          | inr (place, found) ↦ inr (place, cycle_found read.statements marks ranks survey place found)
        ]

  tree_of_ranks : All KeepsForm read.statements → (none : NoneOf read before_cycles) → HasNoCycle read.statements
      → {ranks : List ℕ} → AreRanks read.statements ranks
      → HasTree read ⊎ HasFault read
  tree_of_ranks form none acyclic {ranks} are =
      elim (none_or_fault read [] after_cycles (λ p f. (none, acyclic, f), (λ p f. (none, acyclic, f), tt)) tt) [
        | inr fault ↦ inr fault
        | inl after ↦ inl (
          tree_of read.statements ranks,
          record { faultless = record { before = none; acyclic = acyclic; after = after }; is = refl },
          IsTree-faultless read ranks form (once none) none after are.all are.ranked,
        )
      ]

pub tree_or_fault : (read : ReadTree) → All KeepsForm read.statements → HasTree read ⊎ HasFault read
tree_or_fault read form =
    elim (before read) [
      | inr fault ↦ inr fault
      | inl none ↦ elim (cycles read none) [
        | inl (acyclic, ranks, are) ↦ tree_of_ranks read form none acyclic are
        | inr (place, on_cycle) ↦ inr (Cycle, place, (none, on_cycle))
      ]
    ]
