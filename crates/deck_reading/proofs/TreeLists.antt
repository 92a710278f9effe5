-- What the statements of a tree say, by the numbers of its nodes.
use Rattle.std.proofs.Common.{◌≡◌, ◌≢◌, ℕ, zero, suc, ◌+◌, ◌-◌, ◌<◌, ◌≤◌, true, false, not, cond, List, [], ◌∷◌}
use Rattle.std.proofs.Common.{◌++◌, length, get_or, drop, take, map, refl, sym, ap, ◌∙◌, subst, arith}
use Rattle.std.specs.Prelude.{All, AllPairs}
use Rattle.std.specs.List.{flat_map, position_or_len, range_with_len}
use Rattle.std.proofs.lemmas.Bool.{false_from_ne_true, or_left, or_right}
use Rattle.std.proofs.lemmas.List.{append-nil, get_or-drop, get_or-take, get_or_default, length-drop}
use Rattle.std.proofs.lemmas.List.{length-take-le, map-append, same_lists, take-append-drop}
use Rattle.std.proofs.lemmas.List.Concat.{flat_map-append, flat_map_single}
use Rattle.std.proofs.lemmas.List.Elements.{All-append, All-from_get_or, All-head, All-map, All-tail}
use Rattle.std.proofs.lemmas.List.Elements.{All-weaker}
use Rattle.std.proofs.lemmas.List.Folds.{flat_map-map}
use Rattle.std.proofs.lemmas.List.FromFn.{get_or-map-range_with_len, get_or-range_with_len, length-map-range_with_len}
use Rattle.std.proofs.lemmas.List.FromFn.{length-range_with_len}
use Rattle.std.proofs.lemmas.Slice.Zip.{get_or-zip, length-zip}
use Rattle.fault_words.specs.{declared.kind.GateKind.GateKind, declared.kind.GateKind.TheVariants.Fdep}
use Rattle.fault_definitions.specs.Tree.{FaultTree, IsNodeOf, attributes_of, gate_count, inputs_of}
use Rattle.fault_definitions.specs.Tree.{kind_of, name_of, node_count, unit_count}
use Rattle.fault_definitions.specs.Tree as trees
use Rattle.fault_definitions.specs.WellFormed.{IsSoundGate, IsTree}
use Rattle.galileo_tree.specs.{declared.raw.Placed.Placed, declared.raw.RawBasic.RawBasic, declared.raw.RawGate.RawGate}
use Rattle.galileo_tree.specs.{declared.raw.RawTop.RawTop, declared.raw.Statement.Statement}
use Rattle.tree_check.specs.Said.{basic_in, basics, definition_in, definitions, gate_in, gates}
use Rattle.fault_words.specs.Names.{has_name, same_name, number_in}
use Rattle.tree_check.specs.Said.{names, top_in, tops, uses, uses_in}
use Rattle.tree_check.specs.Numbered.{numbered, numbered_definitions, numbered_gate, numbered_gates}
use Rattle.tree_check.specs.Numbered.{numbered_tops}
use Rattle.tree_check.specs.Numbered.{unit_total}
use Rattle.tree_check.specs.TreeOf.{numbers}
use Rattle.tree_check.proofs.{Differ.same_is, Differ.same_itself, Numbers.number_some}
use Rattle.deck_reading.specs.TreeStatements.{gate_numbers, gate_statement, node_name, statements_of, top_statement}
use Rattle.deck_reading.specs.TreeStatements.{unit_numbers, unit_statement}
use Rattle.deck_reading.specs.Unplaced.{attributed, named, nowhere, said}
use Rattle.deck_reading.proofs.{Anywhere.Numbered, Anywhere.NumberedGate, Passing.map_through}

-- ---- lists by number

-- the values of numbers from one on are a list
pub listed : {X : Type 0} {xs : List X} (f : ℕ → X) (start count : ℕ) → length xs ≡ count
    → ((k : ℕ) (d : X) → k < count → f (start + k) ≡ get_or xs k d)
    → map f (range_with_len start count) ≡ xs
listed {xs} f start count size each =
    same_lists (map f (range_with_len start count)) xs (length-map-range_with_len f start count ∙ sym size)
    (λ k d short.
    let within : k < count = omega (arith, short, length-map-range_with_len f start count) in
    get_or-map-range_with_len f start count k (start + k) d within refl ∙ each k d within)

pub map_same : {A B : Type 0} (f g : A → B) (xs : List A) → All (λ x. f x ≡ g x) xs → map f xs ≡ map g xs
map_same f g [] same = refl
map_same f g (x ∷ xs) same =
    ap (λ y. y ∷ map f xs) (All-head (λ a. f a ≡ g a) x xs same)
    ∙ ap (λ l. g x ∷ l) (map_same f g xs (All-tail (λ a. f a ≡ g a) x xs same))

no_items : (A B : Type 0) (xs : List A) → flat_map (λ (x : A). (let none : List B = [] in none)) xs ≡ []
no_items A B [] = refl
no_items A B (x ∷ xs) = no_items A B xs

-- ---- a name that differs from all others has the number of its place

pairs_tail : (x : List ℕ) (xs : List (List ℕ)) → AllPairs (λ earlier later. earlier ≢ later) (x ∷ xs)
    → AllPairs (λ earlier later. earlier ≢ later) xs
pairs_tail x xs pairs = λ i j d before within. pairs (suc i) (suc j) d (omega arith) (omega arith)

place_is : (xs : List (List ℕ)) (k : ℕ) (d : List ℕ) → AllPairs (λ earlier later. earlier ≢ later) xs → k < length xs
    → (position_or_len (same_name (get_or xs k d)) xs ≡ k) × (has_name xs (get_or xs k d) ≡ true)
place_is [] k d pairs within = absurd (omega arith)
place_is (x ∷ xs) zero d pairs within =
    let same : same_name x x ≡ true = same_itself x x refl in (
      ap (λ b. cond (not b) (1 + position_or_len (same_name x) xs) 0) same,
      or_left (same_name x x) (has_name xs x) same,
    )
place_is (x ∷ xs) (suc k) d pairs within =
    let y = get_or xs k d in
    let other : same_name y x ≡ false =
    false_from_ne_true (same_name y x) (λ same. pairs 0 (suc k) d (omega arith) within (sym (same_is y x same))) in
    let more = place_is xs k d (pairs_tail x xs pairs) (omega arith) in
    let there : 1 + position_or_len (same_name y) xs ≡ suc k = omega (arith, more.0) in (
      ap (λ b. cond (not b) (1 + position_or_len (same_name y) xs) 0) other ∙ there,
      or_right (same_name y x) (has_name xs y) more.1,
    )

module _ (tree : FaultTree) (kept : IsTree tree) where
  pub name_known : (node : ℕ) → IsNodeOf tree node → has_name tree.names (name_of tree node) ≡ true
  name_known node is = (place_is tree.names (node - 1) [] kept.names_differ
      (omega (arith, kept.names_all, is.0, is.1))).1

  pub number_is : (node : ℕ) → IsNodeOf tree node → number_in tree.names (name_of tree node) ≡ node
  number_is node is =
      let place = place_is tree.names (node - 1) [] kept.names_differ (omega (arith, kept.names_all, is.0, is.1)) in
      number_some tree.names (name_of tree node) place.1 ∙ (let e = place.0 in let low = is.0 in omega arith)

  -- ---- the parts of the statements

  abbrev pub ss : List Statement
  ss = map said (statements_of tree)

  parts : {A : Type 0} (f : Statement → List A) → flat_map f ss
      ≡ f (said (top_statement tree))
      ++ (flat_map (λ g. f (said (gate_statement tree g))) (gate_numbers tree)
      ++ flat_map (λ u. f (said (unit_statement tree u))) (unit_numbers tree))
  parts f =
      let of_gates = map (gate_statement tree) (gate_numbers tree) in
      let of_units = map (unit_statement tree) (unit_numbers tree) in
      ap (λ l. f (said (top_statement tree)) ++ flat_map f l) (map-append said of_gates of_units)
      ∙ ap (λ l. f (said (top_statement tree)) ++ l) (flat_map-append f (map said of_gates) (map said of_units))
      ∙ ap (λ l. f (said (top_statement tree)) ++ (l ++ flat_map f (map said of_units)))
      (flat_map-map f said of_gates ∙ flat_map-map (λ s. f (said s)) (gate_statement tree) (gate_numbers tree))
      ∙ ap (λ l. f (said (top_statement tree))
      ++ (flat_map (λ g. f (said (gate_statement tree g))) (gate_numbers tree) ++ l))
      (flat_map-map f said of_units ∙ flat_map-map (λ s. f (said s)) (unit_statement tree) (unit_numbers tree))

  abbrev pub top_at : RawTop
  top_at = record { word = nowhere; name = named (node_name tree tree.top) }

  abbrev gate_at : ℕ → RawGate
  gate_at gate = record {
    name = named (node_name tree gate);
    word = nowhere;
    kind = kind_of tree gate;
    inputs = map named (map (node_name tree) (inputs_of tree gate));
  }

  abbrev pub basic_at : ℕ → RawBasic
  basic_at unit = record { name = named (node_name tree unit); attributes = map attributed (attributes_of tree unit) }

  pub tops_are : tops ss ≡ top_at ∷ []
  tops_are =
      parts top_in
      ∙ ap (λ l. top_at ∷ (l ++ flat_map (λ u. top_in (said (unit_statement tree u))) (unit_numbers tree)))
      (no_items ℕ RawTop (gate_numbers tree))
      ∙ ap (λ l. top_at ∷ l) (no_items ℕ RawTop (unit_numbers tree))

  pub gates_are : gates ss ≡ map gate_at (gate_numbers tree)
  gates_are =
      parts gate_in
      ∙ ap (λ l. l ++ flat_map (λ u. gate_in (said (unit_statement tree u))) (unit_numbers tree))
      (flat_map_single gate_at (gate_numbers tree))
      ∙ ap (λ l. map gate_at (gate_numbers tree) ++ l) (no_items ℕ RawGate (unit_numbers tree))
      ∙ append-nil (map gate_at (gate_numbers tree))

  pub basics_are : basics ss ≡ map basic_at (unit_numbers tree)
  basics_are =
      parts basic_in
      ∙ ap (λ l. l ++ flat_map (λ u. basic_in (said (unit_statement tree u))) (unit_numbers tree))
      (no_items ℕ RawBasic (gate_numbers tree))
      ∙ flat_map_single basic_at (unit_numbers tree)

  abbrev pub name_at : ℕ → Placed
  name_at node = named (node_name tree node)

  -- the nodes in the order of their definitions
  abbrev pub defined : List ℕ
  defined = gate_numbers tree ++ unit_numbers tree

  pub definitions_are : definitions ss ≡ map name_at defined
  definitions_are =
      parts definition_in
      ∙ ap (λ l. l ++ flat_map (λ u. definition_in (said (unit_statement tree u))) (unit_numbers tree))
      (flat_map_single name_at (gate_numbers tree))
      ∙ ap (λ l. map name_at (gate_numbers tree) ++ l) (flat_map_single name_at (unit_numbers tree))
      ∙ sym (map-append name_at (gate_numbers tree) (unit_numbers tree))

  abbrev pub input_names : ℕ → List Placed
  input_names gate = map named (map (node_name tree) (inputs_of tree gate))

  pub uses_are : uses ss ≡ name_at tree.top ∷ flat_map input_names (gate_numbers tree)
  uses_are =
      parts uses_in
      ∙ ap (λ l. name_at tree.top ∷ (flat_map input_names (gate_numbers tree) ++ l))
      (no_items ℕ Placed (unit_numbers tree))
      ∙ ap (λ l. name_at tree.top ∷ l) (append-nil (flat_map input_names (gate_numbers tree)))

  -- ---- names and numbers

  pub units_are : unit_total ss ≡ unit_count tree
  units_are = ap length basics_are ∙ length-map-range_with_len basic_at 1 (unit_count tree)

  pub names_are : names ss ≡ tree.names
  names_are =
      let units = unit_count tree in
      let of_basic = λ (basic : RawBasic). basic.name.name in
      let of_gate = λ (gate : RawGate). gate.name.name in
      let all : length tree.names ≡ units + gate_count tree = kept.names_all in
      let front : map (name_of tree) (unit_numbers tree) ≡ take units tree.names =
      listed (name_of tree) 1 units (length-take-le units tree.names (omega arith)) (λ k d short.
      let at : 1 + k - 1 ≡ k = omega arith in
      ap (λ n. get_or tree.names n []) at ∙ get_or_default tree.names k [] d (omega arith)
      ∙ sym (get_or-take units tree.names k d short)) in
      let back : map (name_of tree) (gate_numbers tree) ≡ drop units tree.names =
      listed (name_of tree) (units + 1) (gate_count tree) (omega (arith, length-drop units tree.names)) (λ k d short.
      let at : units + 1 + k - 1 ≡ units + k = omega arith in
      ap (λ n. get_or tree.names n []) at ∙ get_or_default tree.names (units + k) [] d (omega arith)
      ∙ sym (get_or-drop units tree.names k d)) in
      ap (λ bs. map of_basic bs ++ map of_gate (gates ss)) basics_are
      ∙ ap (λ gs. map of_basic (map basic_at (unit_numbers tree)) ++ map of_gate gs) gates_are
      ∙ ap (λ l. l ++ map of_gate (map gate_at (gate_numbers tree)))
      (map_through of_basic basic_at (name_of tree) (λ u. refl) (unit_numbers tree) ∙ front)
      ∙ ap (λ l. take units tree.names ++ l)
      (map_through of_gate gate_at (name_of tree) (λ g. refl) (gate_numbers tree) ∙ back)
      ∙ take-append-drop units tree.names

  -- a node by its number
  abbrev pub node_at : ℕ → Numbered
  node_at number = record { number = number; place = nowhere }

  pub node_is : (node : ℕ) → IsNodeOf tree node → numbered tree.names (name_at node) ≡ node_at node
  node_is node is = ap node_at (number_is node is)

  nodes_are : (nodes : List ℕ) → All (IsNodeOf tree) nodes → map (numbered tree.names)
      (map named (map (node_name tree) nodes)) ≡ map node_at nodes
  nodes_are nodes all =
      ap (map (numbered tree.names)) (map_through named (node_name tree) name_at (λ n. refl) nodes)
      ∙ map_through (numbered tree.names) name_at (λ n. numbered tree.names (name_at n)) (λ n. refl) nodes
      ∙ map_same (λ n. numbered tree.names (name_at n)) node_at nodes
      (All-weaker (IsNodeOf tree) (λ n. numbered tree.names (name_at n) ≡ node_at n) node_is nodes all)

  -- a gate by the numbers of its inputs
  abbrev pub numbered_at : GateKind × List ℕ → NumberedGate
  numbered_at gate = record { kind = gate.0; word = nowhere; name = nowhere; inputs = map node_at gate.1 }

  pairs_are : map (λ g. (kind_of tree g, inputs_of tree g)) (gate_numbers tree) ≡ trees.gates tree
  pairs_are =
      let units = unit_count tree in
      let all : length tree.inputs ≡ gate_count tree = kept.inputs_all in
      listed (λ g. (kind_of tree g, inputs_of tree g)) (units + 1) (gate_count tree)
      (omega (arith, length-zip tree.kinds tree.inputs))
      (λ k d short.
      let at : units + 1 + k - units - 1 ≡ k = omega arith in
      let within : k < length (trees.gates tree) = omega (arith, length-zip tree.kinds tree.inputs) in
      let pair = λ (n : ℕ). (let p : GateKind × List ℕ = (get_or tree.kinds n Fdep, get_or tree.inputs n []) in p) in
      ap pair at ∙ sym (get_or-zip tree.kinds tree.inputs k (Fdep, []) short (omega arith))
      ∙ get_or_default (trees.gates tree) k (Fdep, []) d within)

  pub numbered_gates_are : numbered_gates ss ≡ map numbered_at (trees.gates tree)
  numbered_gates_are =
      let by_names = λ (gate : GateKind × List ℕ). (let g : NumberedGate =
      record {
        kind = gate.0;
        word = nowhere;
        name = nowhere;
        inputs = map (numbered tree.names) (map named (map (node_name tree) gate.1));
      } in g) in
      let with_inputs = λ (kind : GateKind) (inputs : List Numbered).
      (let g : NumberedGate = record { kind = kind; word = nowhere; name = nowhere; inputs = inputs } in g) in
      ap (λ ns. map (numbered_gate ns) (gates ss)) names_are
      ∙ ap (map (numbered_gate tree.names)) gates_are
      ∙ map_through (numbered_gate tree.names) gate_at (λ g. by_names (kind_of tree g, inputs_of tree g)) (λ g. refl)
      (gate_numbers tree)
      ∙ sym (map_through by_names (λ g. (kind_of tree g, inputs_of tree g))
      (λ g. by_names (kind_of tree g, inputs_of tree g)) (λ g. refl) (gate_numbers tree))
      ∙ ap (map by_names) pairs_are
      ∙ map_same by_names numbered_at (trees.gates tree)
      (All-weaker (IsSoundGate tree) (λ gate. by_names gate ≡ numbered_at gate)
      (λ gate sound. ap (with_inputs gate.0) (nodes_are gate.1 sound.nodes)) (trees.gates tree) kept.gates_sound)

  pub numbered_tops_are : numbered_tops ss ≡ node_at tree.top ∷ []
  numbered_tops_are =
      let by = λ (ns : List (List ℕ)) (top : RawTop). numbered ns top.name in
      ap (λ ns. map (by ns) (tops ss)) names_are
      ∙ ap (map (by tree.names)) tops_are
      ∙ ap (λ n. n ∷ []) (node_is tree.top kept.top_is_node)

  range_nodes : (start count : ℕ) → 1 ≤ start → start + count ≤ node_count tree + 1
      → All (IsNodeOf tree) (range_with_len start count)
  range_nodes start count low high =
      All-from_get_or (IsNodeOf tree) (range_with_len start count) 0
      (λ i short.
      let within : i < count = omega (arith, short, length-range_with_len start count) in
      subst (IsNodeOf tree) (sym (get_or-range_with_len start count i 0 within)) (omega arith, omega arith))

  defined_nodes : All (IsNodeOf tree) defined
  defined_nodes =
      All-append (IsNodeOf tree) (gate_numbers tree) (unit_numbers tree)
      (range_nodes (unit_count tree + 1) (gate_count tree) (omega arith) (omega arith))
      (range_nodes 1 (unit_count tree) (omega arith) (omega arith))

  -- each definition has the number of a node
  pub definitions_nodes : All (IsNodeOf tree) (numbers (numbered_definitions ss))
  definitions_nodes =
      let number = λ (node : Numbered). node.number in
      let of_node = λ (n : ℕ). number_in tree.names (name_of tree n) in
      let same : numbers (numbered_definitions ss) ≡ map of_node defined =
      ap (λ ns. map number (map (numbered ns) (definitions ss))) names_are
      ∙ ap (λ ds. map number (map (numbered tree.names) ds)) definitions_are
      ∙ ap (map number) (map_through (numbered tree.names) name_at (λ n. numbered tree.names (name_at n))
      (λ n. refl) defined)
      ∙ map_through number (λ n. numbered tree.names (name_at n)) of_node (λ n. refl) defined in
      subst (All (IsNodeOf tree)) (sym same)
      (All-map (IsNodeOf tree) of_node defined
      (All-weaker (IsNodeOf tree) (λ n. IsNodeOf tree (of_node n))
      (λ n is. subst (IsNodeOf tree) (sym (number_is n is)) is) defined defined_nodes))
