-- No class of faults occurs in the statements of the made deck.
use Rattle.std.proofs.Common.{◌≡◌, ℕ, suc, ◌+◌, ◌-◌, ◌*◌, ◌%◌, ◌<◌, ◌≤◌, true, false, not, cond, ltb, List, []}
use Rattle.std.proofs.Common.{◌∷◌, ◌++◌, length, drop, map, refl, sym, ap, ◌∙◌, arith}
use Rattle.std.specs.Prelude.{◌&&◌, All, codes, filter, slice_index_or}
use Rattle.std.specs.List.{flat_map, range_with_len}
use Rattle.std.proofs.{lemmas.Bool.and_right, lemmas.List.Folds.flat_map-map}
use Rattle.std.proofs.{lemmas.List.FromFn.length-map-range_with_len, lemmas.List.FromFn.length-range_with_len}
use Rattle.std.proofs.lemmas.List.{drop_all, length-append, length-map}
use Rattle.std.proofs.lemmas.List.Elements.{All-append, All-cons, All-map, All-nil}
use Rattle.fault_words.specs.{declared.kind.GateKind.GateKind, declared.kind.GateKind.TheVariants.Fdep}
use Rattle.fault_words.specs.{declared.place.Place.Place, Names.has_name}
use Rattle.unit_sets.specs.Unit.{most_units}
use Rattle.fault_definitions.specs.{declared.parts.TheConstants.MOST_GATES, Tree.is_fdep_kind}
use Rattle.galileo_tree.specs.{declared.raw.Placed.Placed, declared.raw.RawBasic.RawBasic}
use Rattle.galileo_tree.specs.{declared.raw.Statement.Statement}
use Rattle.tree_check.specs.Checked.{IsFaultless, NoneOf, before_cycles}
use Rattle.tree_check.specs.Classes.{dependent_gates, dummies, fdep_tops, inputless, is_replicated, repeats}
use Rattle.tree_check.specs.Classes.{repeats_after, replicated, shared_spares, short_fdeps, spare_gates}
use Rattle.tree_check.specs.Classes.{undefined}
use Rattle.tree_check.specs.Classes.{wrong_votes}
use Rattle.tree_check.specs.Numbered.{is_fdep_in, kinds, numbered, numbered_gate, numbered_gates, numbered_tops}
use Rattle.tree_check.specs.Numbered.{unit_total}
use Rattle.tree_check.specs.Said.{basics, gates, names, tops, uses}
use Rattle.tree_check.specs.TreeOf.{HasNoCycle, input_lists, tree_of}
use Rattle.deck_reading.specs.Unplaced.{said_tree}
use Rattle.tree_maker.specs.Names.{gate_name, top_name, trigger_name, unit_name}
use Rattle.tree_maker.proofs.{Acyclic.none_cyclic, Ranges.All-flat_range, Ranges.All-range, Spares.no_shared_spares}
use Rattle.tree_maker.proofs.Counted.{has_a, has_b, has_c, has_gate, has_top, has_trigger, no_repeats, number-top, rule}
use Rattle.tree_maker.proofs.Counted.{tree_names, units_counted}
use Rattle.tree_maker.proofs.FineGates.{IsFine, all_fine, deck_gates, kind, no_dependent_gates, no_dummies}
use Rattle.tree_maker.proofs.FineGates.{no_short_fdeps, no_spare_gates, no_wrong_votes, none_gives, none_inputless}
use Rattle.tree_maker.proofs.FineGates.{none_passes}
use Rattle.tree_maker.proofs.Gates.{Numbered, NumberedGate, fdep_numbered, gates_numbered, group_numbered, put}
use Rattle.tree_maker.proofs.Statements.{basics_are, definitions_are, fdep_uses, gates_are, group_uses, lines}
use Rattle.tree_maker.proofs.Statements.{names_are, placed, raw_basic, statements, tops_are, unit_names, uses_are}

module _ (count fdeps : ℕ) (place : ℕ → ℕ) (some : 1 ≤ count) (few : count ≤ 200) (few_fdeps : fdeps ≤ 200)
    (fits : (q : ℕ) → q < fdeps → 5 * q < count) where
  abbrev kind_here : ℕ → GateKind
  kind_here = kind count fdeps place some fits

  abbrev text : List Statement
  text = statements count fdeps kind_here

  abbrev names_here : List (List ℕ)
  names_here = tree_names count fdeps kind_here few few_fdeps

  abbrev gates_here : List NumberedGate
  gates_here = deck_gates count fdeps place some fits

  abbrev units : ℕ
  units = 3 * count + 10

  -- ---- the parts of the tree

  pub gates_by_number : numbered_gates text ≡ gates_here
  gates_by_number =
      ap (λ l. map (numbered_gate l) (gates text)) (names_are count fdeps kind_here)
      ∙ ap (map (numbered_gate names_here)) (gates_are count fdeps kind_here)
      ∙ gates_numbered count fdeps kind_here few few_fdeps fits

  pub count_of_units : unit_total text ≡ units
  count_of_units =
      ap length (basics_are count fdeps kind_here)
      ∙ length-map (unit_names count fdeps kind_here) raw_basic
      ∙ sym (length-map (unit_names count fdeps kind_here) (rule count fdeps kind_here few few_fdeps))
      ∙ ap length (units_counted count fdeps kind_here few few_fdeps)
      ∙ length-range_with_len 1 units

  pub count_of_gates : length (numbered_gates text) ≡ suc (count + fdeps)
  count_of_gates =
      let groups = length-map-range_with_len (group_numbered count fdeps kind_here) 0 count in
      let triggers = length-map-range_with_len (fdep_numbered count fdeps kind_here) 0 fdeps in
      ap length gates_by_number
      ∙ ap suc (length-append (map (group_numbered count fdeps kind_here) (range_with_len 0 count))
      (map (fdep_numbered count fdeps kind_here) (range_with_len 0 fdeps)) ∙ (omega arith))

  -- ---- names

  abbrev Known : Placed → Type 0
  Known used = has_name names_here used.name ≡ true

  three_known : (group : ℕ) → group < count → All Known (group_uses count fdeps kind_here group)
  three_known group within =
      All-cons Known (placed (unit_name group (codes "a")))
      (placed (unit_name group (codes "b")) ∷ placed (unit_name group (codes "c")) ∷ [])
      (has_a count fdeps kind_here few few_fdeps group within)
      (All-cons Known (placed (unit_name group (codes "b"))) (placed (unit_name group (codes "c")) ∷ [])
      (has_b count fdeps kind_here few few_fdeps group within)
      (All-cons Known (placed (unit_name group (codes "c"))) []
      (has_c count fdeps kind_here few few_fdeps group within) (All-nil Known)))

  two_known : (q : ℕ) → q < fdeps → All Known (fdep_uses count fdeps kind_here q)
  two_known q within =
      let digit : q % 10 < 10 = omega arith in
      All-cons Known (placed (trigger_name (q % 10))) (placed (unit_name (5 * q) (codes "b")) ∷ [])
      (has_trigger count fdeps kind_here few few_fdeps (q % 10) digit)
      (All-cons Known (placed (unit_name (5 * q) (codes "b"))) []
      (has_b count fdeps kind_here few few_fdeps (5 * q) (fits q within)) (All-nil Known))

  abbrev used_here : List Placed
  used_here = placed top_name ∷ (map placed (map gate_name (range_with_len 0 count))
      ++ (flat_map (group_uses count fdeps kind_here) (range_with_len 0 count) ++ flat_map
      (fdep_uses count fdeps kind_here) (range_with_len 0 fdeps)))

  used_known : All Known used_here
  used_known =
      All-cons Known (placed top_name)
      (map placed (map gate_name (range_with_len 0 count))
      ++ (flat_map (group_uses count fdeps kind_here) (range_with_len 0 count) ++ flat_map
      (fdep_uses count fdeps kind_here) (range_with_len 0 fdeps)))
      (has_top count fdeps kind_here few few_fdeps)
      (All-append Known (map placed (map gate_name (range_with_len 0 count)))
      (flat_map (group_uses count fdeps kind_here) (range_with_len 0 count) ++ flat_map
      (fdep_uses count fdeps kind_here) (range_with_len 0 fdeps))
      (All-map Known placed (map gate_name (range_with_len 0 count))
      (All-range (λ name. has_name names_here name ≡ true) gate_name 0 count
      (λ group low high. has_gate count fdeps kind_here few few_fdeps group (omega arith))))
      (All-append Known (flat_map (group_uses count fdeps kind_here) (range_with_len 0 count))
      (flat_map (fdep_uses count fdeps kind_here) (range_with_len 0 fdeps))
      (All-flat_range Known (group_uses count fdeps kind_here) 0 count
      (λ group low high. three_known group (omega arith)))
      (All-flat_range Known (fdep_uses count fdeps kind_here) 0 fdeps (λ q low high. two_known q (omega arith)))))

  none_undefined : undefined (names text) (uses text) ≡ []
  none_undefined =
      ap (λ l. undefined l (uses text)) (names_are count fdeps kind_here)
      ∙ ap (undefined names_here) (uses_are count fdeps kind_here)
      ∙ ap (map (λ (used : Placed). used.place))
      (none_passes (λ (used : Placed). not (has_name names_here used.name)) used_here
      (λ k d short. ap not (used_known k d short)))

  none_repeated_here : repeats text ≡ []
  none_repeated_here = ap (repeats_after []) (definitions_are count fdeps kind_here)
      ∙ no_repeats count fdeps kind_here few few_fdeps

  -- ---- units and the top event

  none_replicated : replicated (basics text) ≡ []
  none_replicated =
      ap replicated (basics_are count fdeps kind_here)
      ∙ flat_map-map (λ (basic : RawBasic). map (λ raw. raw.value_place) (filter is_replicated basic.attributes))
      raw_basic (unit_names count fdeps kind_here)
      ∙ none_gives (λ (name : List ℕ). []) (unit_names count fdeps kind_here) (λ k d short. refl)

  top_is_no_fdep : is_fdep_in units (kinds gates_here) (3 * count + 11) ≡ false
  top_is_no_fdep =
      let first : 3 * count + 11 - (3 * count + 10) - 1 ≡ 0 = omega arith in
      ap (λ i. ltb units (3 * count + 11) && is_fdep_kind (slice_index_or (kinds gates_here) i Fdep)) first
      ∙ and_right (ltb units (3 * count + 11)) false refl

  tops_by_number : numbered_tops text ≡ put (3 * count + 11) ∷ []
  tops_by_number =
      ap (λ l. map (λ top. numbered l top.name) (tops text)) (names_are count fdeps kind_here)
      ∙ ap (map (λ top. numbered names_here top.name)) (tops_are count fdeps kind_here)
      ∙ ap (λ n. put n ∷ []) (number-top count fdeps kind_here few few_fdeps)

  no_fdep_on_top : fdep_tops units gates_here (put (3 * count + 11) ∷ []) ≡ []
  no_fdep_on_top = ap (λ b. map (λ (input : Numbered). input.place) (cond b (put (3 * count + 11) ∷ []) []))
      top_is_no_fdep

  -- ---- all classes

  no_cycle : HasNoCycle text
  no_cycle i short leads =
      none_cyclic count fdeps place some fits (tree_of text [])
      (length-map (basics text) (λ basic. map (λ raw. raw.attribute) basic.attributes) ∙ count_of_units)
      (ap kinds gates_by_number)
      (ap (λ l. input_lists (unit_total text) l) gates_by_number ∙ ap (λ u. input_lists u gates_here) count_of_units)
      leads

  -- a class of faults of gates, by the gates with their numbers
  by_number : (class : ℕ → List NumberedGate → List Place) → class units gates_here ≡ []
      → class (unit_total text) (numbered_gates text) ≡ []
  by_number class none = ap (λ u. class u (numbered_gates text)) count_of_units ∙ ap (class units) gates_by_number
      ∙ none

  -- one class more
  also : {A B : Type 0} → A → B → A × B
  also a b = (a, b)

  before : All (IsFine units (kinds gates_here)) gates_here
      → NoneOf (said_tree (lines count fdeps kind_here)) before_cycles
  before fine =
      also refl (also (ap (λ l. map (λ top. top.word) (drop 1 l)) (tops_are count fdeps kind_here))
      (also none_repeated_here (also none_undefined
      (also (by_number (λ u gates. wrong_votes gates) (no_wrong_votes units gates_here fine))
      (also (by_number dummies (no_dummies units gates_here fine))
      (also (by_number inputless (none_inputless units gates_here fine))
      (also (by_number (λ u gates. short_fdeps gates) (no_short_fdeps units gates_here fine))
      (also (by_number dependent_gates (no_dependent_gates units gates_here fine))
      (also (by_number spare_gates (no_spare_gates units gates_here fine))
      (also (by_number (λ u gates. shared_spares gates) (no_shared_spares count fdeps place some fits))
      (also none_replicated
      (also (by_number (λ u gates. fdep_tops u gates (numbered_tops text))
      (ap (fdep_tops units gates_here) tops_by_number ∙ no_fdep_on_top))
      tt))))))))))))

  pub faultless : IsFaultless (said_tree (lines count fdeps kind_here))
  faultless =
      let fine = all_fine count fdeps place some fits in
      record {
        before = before fine;
        acyclic = no_cycle;
        after = (
          ap (map (λ (basic : RawBasic). basic.name.place))
              (drop_all most_units (basics text) (omega (arith, count_of_units))),
          (
            ap (map (λ (gate : NumberedGate). gate.name))
                (drop_all MOST_GATES (numbered_gates text) (omega (arith, count_of_gates))),
            tt,
          ),
        );
      }
