-- The statements of a tree have no fault, and stand for it.
use Rattle.std.proofs.Common.{◌≡◌, ◌≢◌, ℕ, suc, ◌+◌, ◌-◌, ◌<◌, ◌≤◌, Bool, true, false, not, List, [], ◌∷◌, ◌++◌}
use Rattle.std.proofs.Common.{length, get_or, drop, map, refl, sym, ap, ◌∙◌, subst, inl, inr, arith}
use Rattle.std.specs.Prelude.{◌&&◌, All, AllPairs, codes, filter, if◌then◌else◌, slice_index}
use Rattle.std.specs.List.{flat_map, list_all, range_with_len}
use Rattle.std.specs.Str.{str_eq_ignore_ascii_case, str_to_ascii_lowercase}
use Rattle.std.proofs.lemmas.Bool.{and_from, and_left, and_right, cases_Bool, false_from_ne_true, lt-ltb}
use Rattle.std.proofs.lemmas.List.{drop_all, get_or_default, length-map}
use Rattle.std.proofs.lemmas.List.Elements.{All-append, All-cons, All-contains, All-from_get_or, All-get_or, All-head}
use Rattle.std.proofs.lemmas.List.Elements.{All-map, All-nil, All-tail, All-weaker}
use Rattle.std.proofs.lemmas.List.FromFn.{get_or-range_with_len, length-map-range_with_len, length-range_with_len}
use lib.Pointwise.{bytes_decides}
use Rattle.unit_sets.specs.Unit.{most_units}
use Rattle.unit_sets.proofs.UnitListLemmas.{Contains-from_among}
use Rattle.fault_words.specs.{declared.attribute.Attribute.Attribute, declared.kind.GateKind.GateKind}
use Rattle.fault_words.specs.{Name.is_bare_name, Name.is_name}
use Rattle.fault_words.specs.declared.kind.GateKind.TheVariants.{And, Or, Votes, Pand, Por, Seq, Fdep, Csp, Wsp, Hsp}
use Rattle.fault_definitions.proofs.RankLaws.{below_are_nodes, below_ranks, gate_sound, inputs_are_nodes}
use Rattle.fault_definitions.specs.Tree.{FaultTree, IsNodeOf, attributes_of, gate_count, inputs_of, is_above_units}
use Rattle.fault_definitions.specs.Tree.{kind_of}
use Rattle.fault_definitions.specs.Tree.{name_of, rank_of, unit_count}
use Rattle.fault_definitions.specs.Tree as trees
use Rattle.fault_definitions.specs.Trigger.{below}
use Rattle.fault_definitions.specs.WellFormed.{IsSoundAttribute, IsSoundKind, IsTree}
use Rattle.galileo_tree.specs.{declared.raw.Placed.Placed, declared.raw.RawAttribute.RawAttribute}
use Rattle.galileo_tree.specs.{declared.raw.RawBasic.RawBasic, declared.raw.RawTop.RawTop, ReadTree.HasShortNumbers}
use Rattle.tree_check.specs.Checked.{NoneOf, Stands, before_cycles}
use Rattle.tree_check.specs.Classes.{dummies, fdep_tops, gates_after_first, gates_beyond, inputless, is_empty}
use Rattle.tree_check.specs.Classes.{is_replicated, repeats, replicated, shared_spares, short_fdeps, undefined}
use Rattle.tree_check.specs.Classes.{units_beyond, wrong_votes}
use Rattle.fault_words.specs.Names.{all_differ, has_name, same_name}
use Rattle.tree_check.specs.Numbered.{is_spare_kind, kinds, numbered, numbered_definitions, numbered_gates}
use Rattle.tree_check.specs.Numbered.{unit_total}
use Rattle.tree_check.specs.Said.{basics, definitions, names, tops, uses}
use Rattle.tree_check.specs.TreeOf.{HasNoCycle, LeadsTo, edge, first_number, input_lists, numbers, tree_of, way}
use Rattle.tree_check.proofs.Differ.{no_repeat, same_is, same_itself}
use Rattle.deck_reading.specs.TreeStatements.{HasNames, IsNamed, gate_numbers, gate_statement, node_name, statements_of}
use Rattle.deck_reading.specs.TreeStatements.{top_statement, unit_numbers, unit_statement}
use Rattle.deck_reading.specs.Unplaced.{attributed, named, nowhere, said_tree}
use Rattle.deck_reading.specs.Written.{AreGood, IsGood, WrittenStatement, is_good_attribute, is_good_name}
use Rattle.deck_reading.proofs.{Anywhere.Numbered, Anywhere.NumberedGate, Passing.map_through, TreeSpares.no_shared}
use Rattle.deck_reading.proofs.{TreeSpares.none_any}
use Rattle.deck_reading.proofs.TreeClasses.{filter_empty, filter_none, flat_none, inputs_are, kinds_are}
use Rattle.deck_reading.proofs.TreeClasses.{no_dependent_gate, no_dummies, no_fdep_top, no_gate_beyond, no_inputless}
use Rattle.deck_reading.proofs.TreeClasses.{no_short_fdep, no_spare_gate, no_wrong_vote}
use Rattle.deck_reading.proofs.TreeLists.{basic_at, basics_are, definitions_nodes, input_names, listed}
use Rattle.deck_reading.proofs.TreeLists.{name_at, name_known, names_are, node_at, numbered_at, numbered_gates_are}
use Rattle.deck_reading.proofs.TreeLists.{numbered_tops_are, ss, tops_are, units_are, uses_are}

-- ---- names that differ

differ_from : (xs : List (List ℕ)) → AllPairs (λ earlier later. earlier ≢ later) xs → all_differ xs ≡ true
differ_from [] pairs = refl
differ_from (x ∷ xs) pairs =
    let others : All (λ y. same_name x y ≡ false) xs =
    λ k d short. false_from_ne_true (same_name x (get_or xs k d))
    (λ same. pairs 0 (suc k) d (omega arith) (omega arith) (same_is x (get_or xs k d) same)) in
    and_from (not (has_name xs x)) (all_differ xs) (ap not (none_any (same_name x) xs others))
    (differ_from xs (λ i j d before within. pairs (suc i) (suc j) d (omega arith) (omega arith)))

all_flat : {A B : Type 0} (P : B → Type 0) (f : A → List B) (xs : List A) → All (λ x. All P (f x)) xs
    → All P (flat_map f xs)
all_flat P f [] all = All-nil P
all_flat P f (x ∷ xs) all =
    All-append P (f x) (flat_map f xs) (All-head (λ y. All P (f y)) x xs all)
    (all_flat P f xs (All-tail (λ y. All P (f y)) x xs all))

in_range : (P : ℕ → Type 0) (start count : ℕ) → ((n : ℕ) → start ≤ n → n < start + count → P n)
    → All P (range_with_len start count)
in_range P start count each =
    All-from_get_or P (range_with_len start count) 0
    (λ i short.
    let within : i < count = omega (arith, short, length-range_with_len start count) in
    subst P (sym (get_or-range_with_len start count i 0 within)) (each (start + i) (omega arith) (omega arith)))

list_from : {A : Type 0} (p : A → Bool) (xs : List A) → All (λ x. p x ≡ true) xs → list_all p xs ≡ true
list_from p [] all = refl
list_from p (x ∷ xs) all = and_from (p x) (list_all p xs) (All-head (λ y. p y ≡ true) x xs all)
    (list_from p xs (All-tail (λ y. p y ≡ true) x xs all))

-- an attribute of a tree is no other `repl` than 1
single : (attribute : Attribute) → IsSoundAttribute attribute → is_replicated (attributed attribute) ≡ false
single attribute sound =
    let word = str_eq_ignore_ascii_case attribute.word (codes "repl") in
    let other = not (same_name attribute.value (codes "1")) in
    elim (cases_Bool word) [
      | inl is ↦
          let lower : str_to_ascii_lowercase attribute.word ≡ codes "repl" =
          (bytes_decides (str_to_ascii_lowercase attribute.word) (codes "repl")).0 is in
          and_right word other (ap not (same_itself attribute.value (codes "1") (sound.single lower)))
      | inr no' ↦ and_left word other no'
    ]

module _ (tree : FaultTree) (kept : IsTree tree) where
  -- ---- what gates and units have

  gates_above : All (λ g. is_above_units tree g ≡ true) (gate_numbers tree)
  gates_above = in_range (λ g. is_above_units tree g ≡ true) (unit_count tree + 1) (gate_count tree)
      (λ n low high. lt-ltb (unit_count tree) n (omega arith))

  unit_attributes : (P : List Attribute → Type 0) → All P tree.attributes
      → All (λ u. P (attributes_of tree u)) (unit_numbers tree)
  unit_attributes P all =
      in_range (λ u. P (attributes_of tree u)) 1 (unit_count tree)
      (λ n low high. All-get_or P tree.attributes (n - 1) [] (omega arith) all)

  -- ---- the classes by statements

  no_missing : (if is_empty (tops (ss tree kept)) then nowhere ∷ [] else []) ≡ []
  no_missing = ap (λ (ts : List RawTop). if is_empty ts then nowhere ∷ [] else []) (tops_are tree kept)

  no_further : map (λ (top : RawTop). top.word) (drop 1 (tops (ss tree kept))) ≡ []
  no_further = ap (λ (ts : List RawTop). map (λ (top : RawTop). top.word) (drop 1 ts)) (tops_are tree kept)

  no_repeats : repeats (ss tree kept) ≡ []
  no_repeats = no_repeat (ss tree kept) (ap all_differ (names_are tree kept) ∙ differ_from tree.names kept.names_differ)

  abbrev Known : Placed → Type 0
  Known used = not (has_name tree.names used.name) ≡ false

  known : (node : ℕ) → IsNodeOf tree node → Known (name_at tree kept node)
  known node is = ap not (name_known tree kept node is)

  inputs_known : (g : ℕ) → is_above_units tree g ≡ true → All Known (input_names tree kept g)
  inputs_known g above =
      All-map Known named (map (node_name tree) (inputs_of tree g))
      (All-map (λ name. Known (named name)) (node_name tree) (inputs_of tree g)
      (All-weaker (IsNodeOf tree) (λ n. Known (name_at tree kept n)) known (inputs_of tree g)
      (inputs_are_nodes kept g above)))

  no_undefined : undefined (names (ss tree kept)) (uses (ss tree kept)) ≡ []
  no_undefined =
      let all : All Known (name_at tree kept tree.top ∷ flat_map (input_names tree kept) (gate_numbers tree)) =
      All-cons Known (name_at tree kept tree.top) (flat_map (input_names tree kept) (gate_numbers tree))
      (known tree.top kept.top_is_node)
      (all_flat Known (input_names tree kept) (gate_numbers tree)
      (All-weaker (λ g. is_above_units tree g ≡ true) (λ g. All Known (input_names tree kept g)) inputs_known
      (gate_numbers tree) gates_above)) in
      ap (λ ns. undefined ns (uses (ss tree kept))) (names_are tree kept)
      ∙ ap (undefined tree.names) (uses_are tree kept)
      ∙ ap (map (λ (used : Placed). used.place))
      (filter_empty (λ (used : Placed). not (has_name tree.names used.name))
      (name_at tree kept tree.top ∷ flat_map (input_names tree kept) (gate_numbers tree)) all)

  no_replicated : replicated (basics (ss tree kept)) ≡ []
  no_replicated =
      let in_one = λ (basic : RawBasic). map (λ (raw : RawAttribute). raw.value_place)
      (filter is_replicated basic.attributes) in
      ap replicated (basics_are tree kept)
      ∙ flat_none in_one (basic_at tree kept) (unit_numbers tree)
      (unit_attributes (λ attributes. map (λ (raw : RawAttribute). raw.value_place)
      (filter is_replicated (map attributed attributes)) ≡ [])
      (All-weaker (All IsSoundAttribute)
      (λ attributes. map (λ (raw : RawAttribute). raw.value_place)
      (filter is_replicated (map attributed attributes)) ≡ [])
      (λ attributes sound.
      ap (map (λ (raw : RawAttribute). raw.value_place))
      (filter_none is_replicated attributed attributes
      (All-weaker IsSoundAttribute (λ a. is_replicated (attributed a) ≡ false) single attributes sound)))
      tree.attributes kept.attributes_sound))

  no_unit_beyond : units_beyond (basics (ss tree kept)) ≡ []
  no_unit_beyond =
      let few = kept.few_units in
      ap units_beyond (basics_are tree kept)
      ∙ ap (map (λ (basic : RawBasic). basic.name.place))
      (drop_all most_units (map (basic_at tree kept) (unit_numbers tree))
      (omega (arith, length-map-range_with_len (basic_at tree kept) 1 (unit_count tree))))

  -- ---- no cycle

  abbrev bare_tree : FaultTree
  bare_tree = record {
    names = tree.names;
    kinds = tree.kinds;
    inputs = tree.inputs;
    attributes = tree.attributes;
    top = tree.top;
    ranks = [];
  }

  falls : {x y : ℕ} → LeadsTo bare_tree x y → IsNodeOf tree x → (rank_of tree y < rank_of tree x) × IsNodeOf tree y
  falls {x} {y} (edge among_below) is =
      let there = Contains-from_among (below tree x) y among_below in (
        All-contains (λ n. rank_of tree n < rank_of tree x) (below tree x) y (below_ranks kept x is) there,
        All-contains (IsNodeOf tree) (below tree x) y (below_are_nodes kept x) there,
      )
  falls {x} (way {y = y} among_below leads) is =
      let there = Contains-from_among (below tree x) y among_below in
      let lower = All-contains (λ n. rank_of tree n < rank_of tree x) (below tree x) y (below_ranks kept x is) there in
      let more = falls leads (All-contains (IsNodeOf tree) (below tree x) y (below_are_nodes kept x) there) in
      (let further = more.0 in omega (arith, lower, further), more.1)

  -- ---- the tree

  attributes_are : map (λ (basic : RawBasic). map (λ (raw : RawAttribute). raw.attribute) basic.attributes)
      (basics (ss tree kept)) ≡ tree.attributes
  attributes_are =
      let one = λ (raw : RawAttribute). raw.attribute in
      let all = λ (basic : RawBasic). map one basic.attributes in
      ap (map all) (basics_are tree kept)
      ∙ map_through all (basic_at tree kept) (attributes_of tree) (λ u. same_attributes (attributes_of tree u))
      (unit_numbers tree)
      ∙ listed {xs = tree.attributes} (attributes_of tree) 1 (unit_count tree) refl (λ k d short.
      let at : 1 + k - 1 ≡ k = omega arith in
      ap (λ n. get_or tree.attributes n []) at ∙ get_or_default tree.attributes k [] d short)
    where
      same_attributes : (attributes : List Attribute) → map (λ (raw : RawAttribute). raw.attribute)
          (map attributed attributes) ≡ attributes
      same_attributes [] = refl
      same_attributes (a ∷ attributes) = ap (λ l. a ∷ l) (same_attributes attributes)

  tree_is : (ranks : List ℕ) → tree_of (ss tree kept) ranks ≡ record {
    names = tree.names;
    kinds = tree.kinds;
    inputs = tree.inputs;
    attributes = tree.attributes;
    top = tree.top;
    ranks = ranks;
  }
  tree_is ranks =
      let kinds_path = ap kinds (numbered_gates_are tree kept) ∙ kinds_are kept in
      let inputs_path =
      ap (λ n. input_lists n (numbered_gates (ss tree kept))) (units_are tree kept)
      ∙ ap (input_lists (unit_count tree)) (numbered_gates_are tree kept)
      ∙ inputs_are kept in
      let top_path = ap first_number (numbered_tops_are tree kept) in
      λ i. record {
        names = names_are tree kept i;
        kinds = kinds_path i;
        inputs = inputs_path i;
        attributes = attributes_are i;
        top = top_path i;
        ranks = ranks;
      }

  acyclic : HasNoCycle (ss tree kept)
  acyclic = λ i within cyclic.
      let ns : List ℕ = numbers (numbered_definitions (ss tree kept)) in
      let size : length ns ≡ length (definitions (ss tree kept)) =
      length-map (numbered_definitions (ss tree kept)) (λ (n : Numbered). n.number)
      ∙ length-map (definitions (ss tree kept)) (numbered (names (ss tree kept))) in
      let node : IsNodeOf tree (slice_index ns i) = All-get_or (IsNodeOf tree) ns i 0 (omega arith)
      (definitions_nodes tree kept) in
      let back = falls (subst (λ t. LeadsTo t (slice_index ns i) (slice_index ns i)) (tree_is []) cyclic) node in
      (let lower = back.0 in omega arith)

  -- ---- all classes

  by_gates : {X : Type 0} (class : List NumberedGate → List X)
      → class (map (numbered_at tree kept) (trees.gates tree)) ≡ [] → class (numbered_gates (ss tree kept)) ≡ []
  by_gates class none = ap class (numbered_gates_are tree kept) ∙ none

  by_units : {X : Type 0} (class : ℕ → List NumberedGate → List X)
      → class (unit_count tree) (map (numbered_at tree kept) (trees.gates tree)) ≡ []
      → class (unit_total (ss tree kept)) (numbered_gates (ss tree kept)) ≡ []
  by_units class none = ap (λ n. class n (numbered_gates (ss tree kept))) (units_are tree kept)
      ∙ by_gates (class (unit_count tree)) none

  -- one class more
  also : {A B : Type 0} → A → B → A × B
  also a b = (a, b)

  before : NoneOf (said_tree (statements_of tree)) before_cycles
  before =
      also no_missing (also no_further (also no_repeats (also no_undefined
      (also (by_gates wrong_votes (no_wrong_vote kept)) (also (by_units dummies (no_dummies kept))
      (also (by_units inputless (no_inputless kept)) (also (by_gates short_fdeps (no_short_fdep kept))
      (also (by_units (λ units gates. flat_map (gates_after_first trees.is_fdep_kind units) gates)
      (no_dependent_gate kept))
      (also (by_units (λ units gates. flat_map (gates_after_first is_spare_kind units) gates) (no_spare_gate kept))
      (also (by_gates shared_spares (no_shared kept)) (also no_replicated
      (also (ap (fdep_tops (unit_total (ss tree kept)) (numbered_gates (ss tree kept))) (numbered_tops_are tree kept)
      ∙ by_units (λ units gates. fdep_tops units gates (node_at tree kept tree.top ∷ [])) (no_fdep_top kept))
      tt))))))))))))

  pub stands : Stands (said_tree (statements_of tree)) tree
  stands = record {
    faultless = record {
      before = before;
      acyclic = acyclic;
      after = (no_unit_beyond, (by_gates gates_beyond (no_gate_beyond kept), tt));
    };
    is = sym (tree_is tree.ranks);
  }

  -- ---- their names

  short_kind : (kind : GateKind) (inputs : List ℕ) → IsSoundKind tree kind inputs → HasShortNumbers kind
  short_kind And inputs is = tt
  short_kind Or inputs is = tt
  short_kind (Votes least of) inputs is = let enough = is.enough in let short = is.short in (omega arith, short)
  short_kind Pand inputs is = tt
  short_kind Por inputs is = tt
  short_kind Seq inputs is = tt
  short_kind Fdep inputs is = tt
  short_kind Csp inputs is = tt
  short_kind Wsp inputs is = tt
  short_kind Hsp inputs is = tt

  module _ (names_good : IsNamed tree) where
    name_good : (node : ℕ) → IsNodeOf tree node → is_name (name_of tree node) ≡ true
    name_good node is = All-get_or (λ name. is_name name ≡ true) tree.names (node - 1) []
        (omega (arith, kept.names_all, is.0, is.1)) names_good.names

    inputs_good : (inputs : List ℕ) → All (IsNodeOf tree) inputs
        → list_all is_good_name (map (node_name tree) inputs) ≡ true
    inputs_good inputs all =
        list_from is_good_name (map (node_name tree) inputs)
        (All-map (λ name. is_good_name name ≡ true) (node_name tree) inputs
        (All-weaker (IsNodeOf tree) (λ n. is_good_name (node_name tree n) ≡ true) name_good inputs all))

    gate_good : (g : ℕ) → unit_count tree + 1 ≤ g → g < unit_count tree + 1 + gate_count tree
        → IsGood (gate_statement tree g)
    gate_good g low high =
        let sound = gate_sound kept g (omega arith, omega arith) in (
          name_good g (omega arith, omega arith),
          short_kind (kind_of tree g) (inputs_of tree g) sound.kind,
          inputs_good
              (inputs_of tree g) sound.nodes,
        )

    attributes_good : (attributes : List Attribute) → All IsSoundAttribute attributes → All HasNames attributes
        → list_all is_good_attribute attributes ≡ true
    attributes_good attributes sound texts =
        list_from is_good_attribute attributes
        (λ k d short.
        let a = get_or attributes k d in
        and_from (is_name a.word && is_bare_name a.word) (is_name a.value)
        (and_from (is_name a.word) (is_bare_name a.word) (texts k d short).word (sound k d short).bare)
        (texts k d short).value)

    unit_good : (u : ℕ) → 1 ≤ u → u < 1 + unit_count tree → IsGood (unit_statement tree u)
    unit_good u low high = (
      name_good u (low, omega arith),
      attributes_good (attributes_of tree u)
          (All-get_or (All IsSoundAttribute) tree.attributes (u - 1) [] (omega arith) kept.attributes_sound)
          (All-get_or (All HasNames) tree.attributes (u - 1) [] (omega arith) names_good.attributes),
    )

    pub all_good : AreGood (statements_of tree)
    all_good =
        let of_gates : List WrittenStatement = map (gate_statement tree) (gate_numbers tree) in
        let of_units : List WrittenStatement = map (unit_statement tree) (unit_numbers tree) in
        All-cons IsGood (top_statement tree) (of_gates ++ of_units) (name_good tree.top kept.top_is_node)
        (All-append IsGood of_gates of_units
        (All-map IsGood (gate_statement tree) (gate_numbers tree)
        (in_range (λ g. IsGood (gate_statement tree g)) (unit_count tree + 1) (gate_count tree) gate_good))
        (All-map IsGood (unit_statement tree) (unit_numbers tree)
        (in_range (λ u. IsGood (unit_statement tree u)) 1 (unit_count tree) unit_good)))
