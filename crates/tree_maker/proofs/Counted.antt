-- The numbers of the made deck's names.
use Rattle.std.proofs.Common.{◌≡◌, ℕ, suc, ◌+◌, ◌*◌, ◌<◌, ◌≤◌, true, false, List, [], ◌∷◌, ◌++◌, map, refl, ap, ◌∙◌}
use Rattle.std.proofs.Common.{arith, lit≤}
use Rattle.std.specs.Prelude.{◌||◌, codes}
use Rattle.std.specs.List.{flat_map, range_with_len}
use Rattle.std.proofs.{lemmas.Bool.or_right, lemmas.List.map-append, lemmas.List.Elements.All-nil}
use Rattle.std.proofs.{lemmas.List.Folds.list_any-append}
use lib.Pointwise.{bytes_decides}
use Rattle.fault_words.specs.declared.kind.GateKind.{GateKind}
use Rattle.fault_words.specs.Names.{has_name, same_name, number_in}
use Rattle.tree_check.specs.Classes.{repeats_after}
use Rattle.tree_maker.specs.Names.{top_name, gate_name, fdep_name, trigger_name, unit_name, units_in}
use Rattle.tree_maker.proofs.Ranges.{any-flat_range, any-range, range-append}
use Rattle.tree_maker.proofs.Decoding.{decoded, decoded-a, decoded-b, decoded-c, decoded-gate, decoded-trigger}
use Rattle.tree_maker.proofs.Decoding.{fdeps-counted, gates-counted, triggers-counted, units-counted}
use Rattle.tree_maker.proofs.Numbering.{none_repeated, number_counted}
use Rattle.tree_maker.proofs.Statements.{defined_names, gate_names_made, placed, unit_names}

-- two lists that count on make one
joined : {xs ys : List ℕ} (a n b m : ℕ) → xs ≡ range_with_len a n → ys ≡ range_with_len b m → b ≡ a + n
    → xs ++ ys ≡ range_with_len a (n + m)
joined {ys} a n b m one two next =
    ap (λ l. l ++ ys) one ∙ ap (λ l. range_with_len a n ++ l) (two ∙ ap (λ c. range_with_len c m) next)
    ∙ range-append a n m

own_name : (name : List ℕ) → same_name name name ≡ true
own_name name = (bytes_decides name name).1 refl

module _ (count fdeps : ℕ) (kind : ℕ → GateKind) (few : count ≤ 200) (few_fdeps : fdeps ≤ 200) where
  -- the names of the tree, in the order of their numbers
  abbrev pub tree_names : List (List ℕ)
  tree_names = unit_names count fdeps kind ++ (top_name ∷ gate_names_made count fdeps kind)

  -- the number of a name
  abbrev pub rule : List ℕ → ℕ
  rule name = decoded (3 * count + 11) (3 * count + 12) (4 * count + 12) 1 (3 * count + 1) name

  pub units_counted : map rule (unit_names count fdeps kind) ≡ range_with_len 1 (3 * count + 10)
  units_counted =
      map-append rule (flat_map units_in (range_with_len 0 count)) (map trigger_name (range_with_len 0 10))
      ∙ joined 1 (3 * count) (3 * count + 1 + 0) 10
      (units-counted (3 * count + 11) (3 * count + 12) (4 * count + 12) 1 (3 * count + 1) 0 count (omega arith))
      (triggers-counted (3 * count + 11) (3 * count + 12) (4 * count + 12) 1 (3 * count + 1) 10 (lit≤ tt))
      (omega arith)

  gates_counted : map rule (gate_names_made count fdeps kind) ≡ range_with_len (3 * count + 12 + 0) (count + fdeps)
  gates_counted =
      map-append rule (map gate_name (range_with_len 0 count)) (map (λ q. fdep_name (5 * q)) (range_with_len 0 fdeps))
      ∙ joined (3 * count + 12 + 0) count (4 * count + 12 + 0) fdeps
      (gates-counted (3 * count + 11) (3 * count + 12) (4 * count + 12) 1 (3 * count + 1) count (omega arith))
      (fdeps-counted (3 * count + 11) (3 * count + 12) (4 * count + 12) 1 (3 * count + 1) fdeps (omega arith))
      (omega arith)

  pub names_counted : map rule tree_names ≡ range_with_len 1 (3 * count + 10 + suc (count + fdeps))
  names_counted =
      map-append rule (unit_names count fdeps kind) (top_name ∷ gate_names_made count fdeps kind)
      ∙ joined 1 (3 * count + 10) (3 * count + 11) (suc (count + fdeps)) units_counted (ap (λ l. (3 * count + 11) ∷ l)
      (gates_counted ∙ ap (λ s. range_with_len s (count + fdeps)) (let e : 3 * count + 12 + 0 ≡ 3 * count + 11 + 1 =
      omega arith in e)))
      (omega arith)

  -- ---- what is among the names

  among_units : (name : List ℕ) → has_name (unit_names count fdeps kind) name ≡ true → has_name tree_names name ≡ true
  among_units name found =
      list_any-append (same_name name) (unit_names count fdeps kind) (top_name ∷ gate_names_made count fdeps kind)
      ∙ ap (λ b. b || has_name (top_name ∷ gate_names_made count fdeps kind) name) found

  among_gates : (name : List ℕ) → has_name (top_name ∷ gate_names_made count fdeps kind) name ≡ true
      → has_name tree_names name ≡ true
  among_gates name found =
      list_any-append (same_name name) (unit_names count fdeps kind) (top_name ∷ gate_names_made count fdeps kind)
      ∙ or_right (has_name (unit_names count fdeps kind) name)
      (has_name (top_name ∷ gate_names_made count fdeps kind) name) found

  has_unit : (group : ℕ) (name : List ℕ) → group < count → has_name (units_in group) name ≡ true
      → has_name tree_names name ≡ true
  has_unit group name within found =
      among_units name
      (list_any-append (same_name name) (flat_map units_in (range_with_len 0 count))
      (map trigger_name (range_with_len 0 10))
      ∙ ap (λ b. b || has_name (map trigger_name (range_with_len 0 10)) name)
      (any-flat_range (same_name name) units_in 0 count group (omega arith) (omega arith) found))

  pub has_a : (group : ℕ) → group < count → has_name tree_names (unit_name group (codes "a")) ≡ true
  has_a group within =
      has_unit group (unit_name group (codes "a")) within
      (ap (λ b. b || has_name (unit_name group (codes "b") ∷ unit_name group (codes "c") ∷ [])
      (unit_name group (codes "a"))) (own_name (unit_name group (codes "a"))))

  pub has_b : (group : ℕ) → group < count → has_name tree_names (unit_name group (codes "b")) ≡ true
  has_b group within =
      let name : List ℕ = unit_name group (codes "b") in
      has_unit group name within
      (or_right (same_name name (unit_name group (codes "a"))) (has_name (name ∷ unit_name group (codes "c") ∷ []) name)
      (ap (λ b. b || has_name (unit_name group (codes "c") ∷ []) name) (own_name name)))

  pub has_c : (group : ℕ) → group < count → has_name tree_names (unit_name group (codes "c")) ≡ true
  has_c group within =
      let name : List ℕ = unit_name group (codes "c") in
      has_unit group name within
      (or_right (same_name name (unit_name group (codes "a"))) (has_name (unit_name group (codes "b") ∷ name ∷ []) name)
      (or_right (same_name name (unit_name group (codes "b"))) (has_name (name ∷ []) name)
      (ap (λ b. b || false) (own_name name))))

  pub has_trigger : (trigger : ℕ) → trigger < 10 → has_name tree_names (trigger_name trigger) ≡ true
  has_trigger trigger within =
      let name : List ℕ = trigger_name trigger in
      among_units name
      (list_any-append (same_name name) (flat_map units_in (range_with_len 0 count))
      (map trigger_name (range_with_len 0 10))
      ∙ or_right (has_name (flat_map units_in (range_with_len 0 count)) name)
      (has_name (map trigger_name (range_with_len 0 10)) name)
      (any-range (same_name name) trigger_name 0 10 trigger (omega arith) (omega arith) (own_name name)))

  pub has_top : has_name tree_names top_name ≡ true
  has_top = among_gates top_name
      (ap (λ b. b || has_name (gate_names_made count fdeps kind) top_name) (own_name top_name))

  pub has_gate : (group : ℕ) → group < count → has_name tree_names (gate_name group) ≡ true
  has_gate group within =
      let name : List ℕ = gate_name group in
      among_gates name
      (or_right (same_name name top_name) (has_name (gate_names_made count fdeps kind) name)
      (list_any-append (same_name name) (map gate_name (range_with_len 0 count))
      (map (λ q. fdep_name (5 * q)) (range_with_len 0 fdeps))
      ∙ ap (λ b. b || has_name (map (λ q. fdep_name (5 * q)) (range_with_len 0 fdeps)) name)
      (any-range (same_name name) gate_name 0 count group (omega arith) (omega arith) (own_name name))))

  -- ---- their numbers

  numbered : (name : List ℕ) → has_name tree_names name ≡ true → number_in tree_names name ≡ rule name
  numbered name found = number_counted rule tree_names (3 * count + 10 + suc (count + fdeps)) name names_counted found

  pub number-a : (group : ℕ) → group < count → number_in tree_names (unit_name group (codes "a")) ≡ 3 * group + 1
  number-a group within =
      numbered (unit_name group (codes "a")) (has_a group within)
      ∙ decoded-a (3 * count + 11) (3 * count + 12) (4 * count + 12) 1 (3 * count + 1) group (omega arith)
      ∙ (omega arith)

  pub number-b : (group : ℕ) → group < count → number_in tree_names (unit_name group (codes "b")) ≡ 3 * group + 2
  number-b group within =
      numbered (unit_name group (codes "b")) (has_b group within)
      ∙ decoded-b (3 * count + 11) (3 * count + 12) (4 * count + 12) 1 (3 * count + 1) group (omega arith)
      ∙ (omega arith)

  pub number-c : (group : ℕ) → group < count → number_in tree_names (unit_name group (codes "c")) ≡ 3 * group + 3
  number-c group within =
      numbered (unit_name group (codes "c")) (has_c group within)
      ∙ decoded-c (3 * count + 11) (3 * count + 12) (4 * count + 12) 1 (3 * count + 1) group (omega arith)
      ∙ (omega arith)

  pub number-trigger : (trigger : ℕ) → trigger < 10 → number_in tree_names (trigger_name trigger)
      ≡ 3 * count + 1 + trigger
  number-trigger trigger within =
      numbered (trigger_name trigger) (has_trigger trigger within)
      ∙ decoded-trigger (3 * count + 11) (3 * count + 12) (4 * count + 12) 1 (3 * count + 1) trigger (omega arith)

  pub number-gate : (group : ℕ) → group < count → number_in tree_names (gate_name group) ≡ 3 * count + 12 + group
  number-gate group within =
      numbered (gate_name group) (has_gate group within)
      ∙ decoded-gate (3 * count + 11) (3 * count + 12) (4 * count + 12) 1 (3 * count + 1) group (omega arith)

  pub number-top : number_in tree_names top_name ≡ 3 * count + 11
  number-top = numbered top_name has_top

  -- ---- no name is defined twice

  -- the names in the order of their definitions
  defined_counted : map (decoded 0 1 (1 + count) (1 + count + fdeps) (1 + count + fdeps + 3 * count))
      (defined_names count fdeps kind) ≡ range_with_len 0 (suc (count + (fdeps + (3 * count + 10))))
  defined_counted =
      let text : List ℕ → ℕ = decoded 0 1 (1 + count) (1 + count + fdeps) (1 + count + fdeps + 3 * count) in
      let group_part : List (List ℕ) = map gate_name (range_with_len 0 count) in
      let fdep_part : List (List ℕ) = map (λ q. fdep_name (5 * q)) (range_with_len 0 fdeps) in
      let unit_part : List (List ℕ) = flat_map units_in (range_with_len 0 count) in
      let trigger_part : List (List ℕ) = map trigger_name (range_with_len 0 10) in
      ap (λ l. 0 ∷ l)
      (map-append text group_part (fdep_part ++ (unit_part ++ trigger_part))
      ∙ joined 1 count (1 + count) (fdeps + (3 * count + 10))
      (gates-counted 0 1 (1 + count) (1 + count + fdeps) (1 + count + fdeps + 3 * count) count (omega arith))
      (map-append text fdep_part (unit_part ++ trigger_part)
      ∙ joined (1 + count) fdeps (1 + count + fdeps) (3 * count + 10)
      (fdeps-counted 0 1 (1 + count) (1 + count + fdeps) (1 + count + fdeps + 3 * count) fdeps (omega arith)
      ∙ ap (λ s. range_with_len s fdeps) (let e : 1 + count + 0 ≡ 1 + count = omega arith in e))
      (map-append text unit_part trigger_part
      ∙ joined (1 + count + fdeps) (3 * count) (1 + count + fdeps + 3 * count + 0) 10
      (units-counted 0 1 (1 + count) (1 + count + fdeps) (1 + count + fdeps + 3 * count) 0 count (omega arith)
      ∙ ap (λ s. range_with_len s (3 * count)) (let e : 1 + count + fdeps + 0 ≡ 1 + count + fdeps = omega arith in e))
      (triggers-counted 0 1 (1 + count) (1 + count + fdeps) (1 + count + fdeps + 3 * count) 10 (lit≤ tt))
      (omega arith))
      (omega arith))
      (omega arith))

  pub no_repeats : repeats_after [] (map placed (defined_names count fdeps kind)) ≡ []
  no_repeats =
      none_repeated (decoded 0 1 (1 + count) (1 + count + fdeps) (1 + count + fdeps + 3 * count)) []
      (defined_names count fdeps kind) 0
      (suc (count + (fdeps + (3 * count + 10)))) defined_counted
      (All-nil (λ other. decoded 0 1 (1 + count) (1 + count + fdeps) (1 + count + fdeps + 3 * count) other < 0))
