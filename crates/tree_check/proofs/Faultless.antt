-- That statements without a fault stand for a tree.
use Rattle.std.proofs.Common.{◌≡◌, ◌≢◌, ℕ, ◌≤◌, true, false, List, [], ◌∷◌, length, get_or, map, refl, sym, ◌∙◌, ap}
use Rattle.std.proofs.Common.{subst, inl, inr, arith}
use Rattle.std.specs.Prelude.{if◌then◌else◌, not, ◌&&◌, All, AllPairs, Contains, zip, codes, filter}
use Rattle.std.specs.{List.flat_map, Str.str_eq_ignore_ascii_case, Str.str_to_ascii_lowercase}
use Rattle.std.proofs.{lemmas.Bool.and_cases, lemmas.Bool.not-false, lemmas.List.length-map}
use Rattle.std.proofs.{lemmas.List.Elements.All-map}
use lib.Pointwise.{bytes_decides}
use Rattle.unit_sets.specs.Unit.{most_units}
use Rattle.fault_definitions.specs.{declared.parts.TheConstants.MOST_GATES, Rank.IsRanked}
use Rattle.fault_words.specs.{declared.place.Place.Place, Names.same_name, Names.all_differ}
use Rattle.fault_definitions.specs.Tree.{unit_count, node_count, is_fdep, IsNodeOf}
use Rattle.fault_definitions.specs.Tree as trees
use Rattle.fault_definitions.specs.WellFormed.{IsTree, IsSoundGate, IsSoundAttribute, primary_in, spares_in}
use Rattle.galileo_tree.specs.{declared.raw.RawTop.RawTop, declared.raw.RawBasic.RawBasic}
use Rattle.galileo_tree.specs.{declared.raw.RawAttribute.RawAttribute, declared.raw.Statement.Statement}
use Rattle.galileo_tree.specs.ReadTree.{ReadTree, KeepsForm, HasBareWord, HasShortNumbers}
use Rattle.tree_check.specs.{declared.numbered.Numbered.Numbered, declared.numbered.NumberedGate.NumberedGate}
use Rattle.tree_check.specs.Said.{basics, gates, tops, names}
use Rattle.tree_check.specs.Numbered.{kinds, kept_inputs, numbered, numbered_gate, numbered_gates, numbered_tops}
use Rattle.tree_check.specs.Numbered.{unit_total, is_fdep_in}
use Rattle.tree_check.specs.Classes.{is_replicated, is_empty, missing_tops, replicated, wrong_vote, dummies_in}
use Rattle.tree_check.specs.Classes.{reads_nothing, is_short_fdep, gates_after_first}
use Rattle.tree_check.specs.Numbered.{is_spare_kind}
use Rattle.fault_definitions.specs.Tree.{is_fdep_kind}
use Rattle.tree_check.specs.TreeOf.{numbers, tree_of, first_number}
use Rattle.tree_check.proofs.{Edges.kept_gates, Differ.same_is, SpareParts.differing_spares, SpareParts.no_primary}
use Rattle.tree_check.specs.Checked.{NoneOf, before_cycles, after_cycles}
use Rattle.tree_check.proofs.NonePass.{none_pass, none_each, none_beyond}
use Rattle.tree_check.proofs.GoodGates.{IsGood, fdep_same, sound_gates}
use Rattle.tree_check.proofs.StatementNames.{names_total, inputs_known, tops_known, gates_short}
use Rattle.tree_check.proofs.StatementNames.{basics_bare, pairs_differ}

zip-maps : {X A B : Type 0} (f : X → A) (g : X → B) (xs : List X) → zip (map f xs) (map g xs) ≡ map (λ x. (f x, g x)) xs
zip-maps f g [] = refl
zip-maps f g (x ∷ xs) = ap (λ rest. (f x, g x) ∷ rest) (zip-maps f g xs)

-- ---- attributes

replicated_word : (word : List ℕ) {value : List ℕ} → (str_eq_ignore_ascii_case word (codes "repl")
    && not (same_name value (codes "1"))) ≡ false
    → str_to_ascii_lowercase word ≡ codes "repl" → value ≡ codes "1"
replicated_word word {value} none is =
    elim (and_cases (str_eq_ignore_ascii_case word (codes "repl")) (not (same_name value (codes "1"))) none) [
      | inl other ↦ (let same : str_eq_ignore_ascii_case word (codes "repl") ≡ true =
          (bytes_decides (str_to_ascii_lowercase word) (codes "repl")).1 is in absurd cc)
      | inr one ↦ same_is value (codes "1") (not-false (same_name value (codes "1")) one)
    ]

sound_attribute : (raw : RawAttribute) → HasBareWord raw → is_replicated raw ≡ false → IsSoundAttribute raw.attribute
sound_attribute raw bare none =
    record { bare = bare; single = replicated_word raw.attribute.word none }

sound_attributes : (statements : List Statement) → All KeepsForm statements → replicated (basics statements) ≡ []
    → All (All IsSoundAttribute) (map (λ basic. map (λ raw. raw.attribute) basic.attributes) (basics statements))
sound_attributes statements form none =
    All-map (All IsSoundAttribute) (λ (basic : RawBasic). map (λ (raw : RawAttribute). raw.attribute) basic.attributes)
    (basics statements)
    (λ k d short.
    All-map IsSoundAttribute (λ (raw : RawAttribute). raw.attribute) (get_or (basics statements) k d).attributes
    (λ k' d' short'.
    sound_attribute (get_or (get_or (basics statements) k d).attributes k' d')
    (basics_bare statements form k d short k' d' short')
    (none_pass (λ (raw : RawAttribute). raw.value_place) is_replicated (get_or (basics statements) k d).attributes
    (none_each (λ (basic : RawBasic). map (λ (raw : RawAttribute). raw.value_place)
    (filter is_replicated basic.attributes)) (basics statements) none k d short)
    k' d' short')))

-- ---- the top event

first_passes : (P : ℕ → Type 0) (end : Place) (statements : List Statement) → missing_tops statements end ≡ []
    → All (λ top. P top.number) (numbered_tops statements) → P (first_number (numbered_tops statements))
first_passes P end statements some all = by (tops statements) some all
  where
    by : (ts : List RawTop) → (if is_empty ts then end ∷ [] else []) ≡ []
        → All (λ top. P top.number) (map (λ (top : RawTop). numbered (names statements) top.name) ts)
        → P (first_number (map (λ (top : RawTop). numbered (names statements) top.name) ts))
    by [] none each = absurd cc
    by (t ∷ ts) none each = each 0 (numbered (names statements) t.name) (omega arith)

-- ---- the tree

module _ (read : ReadTree) (ranks : List ℕ) where
  units_are : unit_count (tree_of read.statements ranks) ≡ unit_total read.statements
  units_are =
      length-map (basics read.statements) (λ (basic : RawBasic). map (λ (raw : RawAttribute). raw.attribute)
      basic.attributes)

  gates_are : trees.gates (tree_of read.statements ranks)
      ≡ kept_gates (unit_total read.statements) (kinds (numbered_gates read.statements))
      (numbered_gates read.statements)
  gates_are =
      zip-maps (λ (gate : NumberedGate). gate.kind)
      (λ (gate : NumberedGate). numbers (kept_inputs (unit_total read.statements)
      (kinds (numbered_gates read.statements)) gate)) (numbered_gates read.statements)

  names_are : length (names read.statements) ≡ node_count (tree_of read.statements ranks)
  names_are =
      omega (
        arith,
        units_are,
        length-map (numbered_gates read.statements) (λ (gate : NumberedGate). gate.kind),
        names_total read.statements,
      )

  module _ (form : All KeepsForm read.statements) (before : NoneOf read before_cycles) where
    good_gates : All (IsGood (unit_total read.statements) (length (names read.statements))
        (kinds (numbered_gates read.statements))) (numbered_gates read.statements)
    good_gates k d short = record {
      known = inputs_known read.statements before.1.1.1.0 k d short;
      short =
          All-map (λ (gate : NumberedGate). HasShortNumbers gate.kind) (numbered_gate (names read.statements))
          (gates read.statements) (gates_short read.statements form) k d short;
      votes =
          none_pass (λ (gate : NumberedGate). gate.word)
          (λ (gate : NumberedGate). wrong_vote gate.kind (length gate.inputs)) (numbered_gates read.statements)
          before.1.1.1.1.0 k d short;
      no_dummies =
          none_each (dummies_in (is_fdep_in (unit_total read.statements) (kinds (numbered_gates read.statements))))
          (numbered_gates read.statements) before.1.1.1.1.1.0 k d short;
      some =
          none_pass (λ (gate : NumberedGate). gate.word)
          (reads_nothing (unit_total read.statements) (kinds (numbered_gates read.statements)))
          (numbered_gates read.statements) before.1.1.1.1.1.1.0 k d short;
      two =
          none_pass (λ (gate : NumberedGate). gate.word) is_short_fdep (numbered_gates read.statements)
          before.1.1.1.1.1.1.1.0 k d short;
      dependents =
          none_each (gates_after_first is_fdep_kind (unit_total read.statements)) (numbered_gates read.statements)
          before.1.1.1.1.1.1.1.1.0 k d short;
      spares =
          none_each (gates_after_first is_spare_kind (unit_total read.statements)) (numbered_gates read.statements)
          before.1.1.1.1.1.1.1.1.1.0 k d short;
    }

    top_known : IsNodeOf (tree_of read.statements ranks) (tree_of read.statements ranks).top
    top_known =
        let known =
        first_passes (λ number. (1 ≤ number) × (number ≤ length (names read.statements))) read.end read.statements
        before.0 (tops_known read.statements before.1.1.1.0) in
        (known.0, omega (arith, known.1, names_are))

    top_read : is_fdep (tree_of read.statements ranks) (tree_of read.statements ranks).top ≡ false
    top_read =
        fdep_same (tree_of read.statements ranks) units_are (sym names_are) (tree_of read.statements ranks).top
        ∙ first_passes (λ number. is_fdep_in (unit_total read.statements) (kinds (numbered_gates read.statements))
        number ≡ false) read.end read.statements before.0
        (none_pass (λ (top : Numbered). top.place) (λ (top : Numbered). is_fdep_in (unit_total read.statements)
        (kinds (numbered_gates read.statements)) top.number) (numbered_tops read.statements)
        before.1.1.1.1.1.1.1.1.1.1.1.1.0)

    gates_good : All (IsSoundGate (tree_of read.statements ranks)) (trees.gates (tree_of read.statements ranks))
    gates_good =
        subst (λ gs. All (IsSoundGate (tree_of read.statements ranks)) gs) (sym gates_are)
        (sound_gates (tree_of read.statements ranks)
        units_are (sym names_are) (numbered_gates read.statements) good_gates)

    spares_apart : AllPairs (λ earlier later. earlier ≢ later)
        (flat_map spares_in (trees.gates (tree_of read.statements ranks)))
    spares_apart =
        subst (λ gs. AllPairs (λ earlier later. earlier ≢ later) (flat_map spares_in gs)) (sym gates_are)
        (differing_spares (unit_total read.statements) (kinds (numbered_gates read.statements))
        (numbered_gates read.statements) before.1.1.1.1.1.1.1.1.1.1.0)

    no_primaries : All (λ spare. ¬ (Contains (flat_map primary_in (trees.gates (tree_of read.statements ranks))) spare))
        (flat_map spares_in (trees.gates (tree_of read.statements ranks)))
    no_primaries =
        subst (λ gs. All (λ spare. ¬ (Contains (flat_map primary_in gs) spare)) (flat_map spares_in gs)) (sym gates_are)
        (no_primary (unit_total read.statements) (kinds (numbered_gates read.statements))
        (numbered_gates read.statements) before.1.1.1.1.1.1.1.1.1.1.0)

-- Statements in which no class of faults occurs stand for a tree, with ranks that follow its rule.
pub IsTree-faultless : (read : ReadTree) (ranks : List ℕ) → All KeepsForm read.statements
    → all_differ (names read.statements) ≡ true
    → NoneOf read before_cycles → NoneOf read after_cycles
    → length ranks ≡ length (names read.statements) → IsRanked (tree_of read.statements ranks)
    → IsTree (tree_of read.statements ranks)
IsTree-faultless read ranks form apart before after ranked_all ranked = record {
  names_all = names_are read ranks;
  inputs_all =
      length-map (numbered_gates read.statements) (λ (gate : NumberedGate). numbers
      (kept_inputs (unit_total read.statements) (kinds (numbered_gates read.statements)) gate))
      ∙ sym (length-map (numbered_gates read.statements) (λ (gate : NumberedGate). gate.kind));
  ranks_all = ranked_all ∙ names_are read ranks;
  few_units =
      omega (
        arith,
        units_are read ranks,
        none_beyond (λ (basic : RawBasic). basic.name.place) most_units
            (basics read.statements) after.0,
      );
  few_gates =
      omega (
        arith,
        length-map (numbered_gates read.statements) (λ (gate : NumberedGate). gate.kind),
        none_beyond (λ (gate : NumberedGate). gate.name) MOST_GATES (numbered_gates read.statements) after.1.0,
      );
  names_differ = pairs_differ (names read.statements) apart;
  top_is_node = top_known read ranks form before;
  top_is_read = top_read read ranks form before;
  gates_sound = gates_good read ranks form before;
  spares_differ = spares_apart read ranks form before;
  spares_are_no_primaries = no_primaries read ranks form before;
  attributes_sound = sound_attributes read.statements form before.1.1.1.1.1.1.1.1.1.1.1.0;
  ranked = ranked;
}
