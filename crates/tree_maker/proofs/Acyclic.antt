-- No node of the made deck leads to itself: the top event stands above the groups' gates, these above their units, and
-- the units above
-- the triggers.
use Rattle.std.proofs.Common.{◌≡◌, ℕ, zero, suc, ◌+◌, ◌-◌, ◌*◌, ◌%◌, ◌<◌, ◌≤◌, Bool, true, false, not, cond, ltb, eqb}
use Rattle.std.proofs.Common.{List, [], ◌∷◌, ◌++◌, length, map, refl, sym, ap, subst, ◌∙◌, arith, get_or, inl, inr}
use Rattle.std.specs.Prelude.{◌||◌, All, Option, Some, None, filter_map, slice_index_or, zip}
use Rattle.std.specs.List.{cons_option, range_with_len}
use Rattle.std.proofs.lemmas.Bool.{cases_Bool, cases_lt, eqb-true, le-ltb, lt-ltb}
use Rattle.std.proofs.lemmas.List.{get_or_past}
use Rattle.std.proofs.lemmas.List.Elements.{All-append, All-cons, All-filter, All-head, All-map, All-nil, All-tail}
use Rattle.unit_sets.specs.UnitList.{among}
use Rattle.fault_words.specs.{declared.kind.GateKind.GateKind, declared.kind.GateKind.TheVariants.And}
use Rattle.fault_definitions.specs.{Tree.FaultTree, Tree.unit_count, Trigger.below, Trigger.trigger_by}
use Rattle.tree_check.specs.Numbered.{drops_fdeps, is_fdep_in, kept_by, kept_inputs, kinds}
use Rattle.tree_check.specs.TreeOf.{LeadsTo, input_lists, numbers}
use Rattle.tree_check.specs.TreeOf.LeadsTo.{edge, way}
use Rattle.tree_maker.specs.MadeDeck as made
use Rattle.tree_maker.proofs.FineGates.{deck_gates, kind, seven_kinds}
use Rattle.tree_maker.proofs.Gates.{Numbered, NumberedGate, fdep_numbered, group_numbered, put, top_numbered}
use Rattle.tree_maker.proofs.Ranges.{All-range}

-- ---- lists

zip-maps : {X A B : Type 0} (f : X → A) (g : X → B) (xs : List X) → zip (map f xs) (map g xs) ≡ map (λ x. (f x, g x)) xs
zip-maps f g [] = refl
zip-maps f g (x ∷ xs) = ap (λ rest. (f x, g x) ∷ rest) (zip-maps f g xs)

all_kept : (Q : Numbered → Type 0) (drops : Bool) (test : ℕ → Bool) (inputs : List Numbered) → All Q inputs
    → All Q (kept_by drops test inputs)
all_kept Q true test inputs each = All-filter (λ (input : Numbered). not (test input.number)) Q inputs each
all_kept Q false test inputs each = each

-- an item of a list, or the one in its place
at_or : {X : Type 0} (P : X → Type 0) (xs : List X) (d : X) → All P xs → P d → (i : ℕ) → P (get_or xs i d)
at_or P xs d each none i = elim (cases_lt i (length xs)) [
  | inl short ↦ each i d short
  | inr past ↦ subst P (sym (get_or_past xs i d past)) none
]

-- what triggers a unit among some gates
module _ (unit : ℕ) (P : ℕ → Type 0) where
  abbrev Given : GateKind × List ℕ → Type 0
  Given gate = (z : ℕ) → trigger_by unit gate ≡ Some z → P z

  first_or_later : (found : Option ℕ) (later : List ℕ) (y : ℕ) → ((z : ℕ) → found ≡ Some z → P z)
      → (among later y ≡ true → P y) → among (cons_option found later) y ≡ true → P y
  first_or_later None later y here behind there = behind there
  first_or_later (Some z) later y here behind there = elim (cases_Bool (eqb z y)) [
    | inl same ↦ subst P (eqb-true z y same) (here z refl)
    | inr other ↦ behind (sym (ap (λ b. b || among later y) other) ∙ there)
  ]

  triggered : (gates : List (GateKind × List ℕ)) (y : ℕ) → All Given gates
      → among (filter_map (trigger_by unit) gates) y ≡ true → P y
  triggered [] y each found = absurd cc
  triggered (gate ∷ gates) y each found =
      first_or_later (trigger_by unit gate) (filter_map (trigger_by unit) gates) y (All-head Given gate gates each)
      (λ behind. triggered gates y (All-tail Given gate gates each) behind) found

module _ (count fdeps : ℕ) (place : ℕ → ℕ) (some : 1 ≤ count) (fits : (q : ℕ) → q < fdeps → 5 * q < count) where
  abbrev units : ℕ
  units = 3 * count + 10

  -- how high a node stands: the triggers lowest, then the other units, their gates, and the top event
  abbrev height : ℕ → ℕ
  height node =
      cond (ltb units node) (cond (ltb (units + 1) node) 2 3) (cond (ltb (3 * count) node) 0 1)

  height-top : height (units + 1) ≡ 3
  height-top =
      let above : ltb units (units + 1) ≡ true = lt-ltb units (units + 1) (omega arith) in
      let first : ltb (units + 1) (units + 1) ≡ false = le-ltb (units + 1) (units + 1) (omega arith) in
      rw (above, first) refl

  height-gate : (node : ℕ) → units + 1 < node → height node ≡ 2
  height-gate node high =
      let above : ltb units node ≡ true = lt-ltb units node (omega arith) in
      let first : ltb (units + 1) node ≡ true = lt-ltb (units + 1) node high in
      rw (above, first) refl

  height-unit : (node : ℕ) → node ≤ 3 * count → height node ≡ 1
  height-unit node low =
      let above : ltb units node ≡ false = le-ltb units node (omega arith) in
      let first : ltb (3 * count) node ≡ false = le-ltb (3 * count) node low in
      rw (above, first) refl

  height-trigger : (node : ℕ) → 3 * count < node → node ≤ units → height node ≡ 0
  height-trigger node high low =
      let above : ltb units node ≡ false = le-ltb units node low in
      let first : ltb (3 * count) node ≡ true = lt-ltb (3 * count) node high in
      rw (above, first) refl

  low_unit : (node : ℕ) → node ≤ units → height node < 2
  low_unit node low = elim (cases_lt (3 * count) node) [
    | inl high ↦ let is = height-trigger node high low in omega arith
    | inr under ↦ let is = height-unit node under in omega arith
  ]

  -- ---- edges from gates

  abbrev gates_here : List NumberedGate
  gates_here = deck_gates count fdeps place some fits

  abbrev kind_here : ℕ → GateKind
  kind_here = kind count fdeps place some fits

  abbrev numbers_left : NumberedGate → List ℕ
  numbers_left gate = numbers (kept_inputs units (kinds gates_here) gate)

  abbrev Below : ℕ → List ℕ → Type 0
  Below bound inputs = All (λ y. height y < bound) inputs

  -- what is left of inputs that all stand below a height
  left_below : (bound : ℕ) (gate : NumberedGate) → All (λ (input : Numbered). height input.number < bound) gate.inputs
      → Below bound (numbers_left gate)
  left_below bound gate each =
      All-map (λ y. height y < bound) (λ (input : Numbered). input.number) (kept_inputs units (kinds gates_here) gate)
      (all_kept (λ (input : Numbered). height input.number < bound) (drops_fdeps gate.kind)
      (is_fdep_in units (kinds gates_here)) gate.inputs each)

  top_below : Below 3 (numbers_left (top_numbered count fdeps kind_here))
  top_below =
      left_below 3 (top_numbered count fdeps kind_here)
      (All-map (λ (input : Numbered). height input.number < 3) put
      (map (λ group. 3 * count + 12 + group) (range_with_len 0 count))
      (All-range (λ n. height n < 3) (λ group. 3 * count + 12 + group) 0 count
      (λ group low high. let is = height-gate (3 * count + 12 + group) (omega arith) in omega arith)))

  group_below : (group : ℕ) → group < count → Below 2 (numbers_left (group_numbered count fdeps kind_here group))
  group_below group within =
      let Low : Numbered → Type 0 = λ (input : Numbered). height input.number < 2 in
      left_below 2 (group_numbered count fdeps kind_here group)
      (All-cons Low (put (3 * group + 1)) (put (3 * group + 2) ∷ put (3 * group + 3) ∷ [])
      (low_unit (3 * group + 1) (omega arith))
      (All-cons Low (put (3 * group + 2)) (put (3 * group + 3) ∷ []) (low_unit (3 * group + 2) (omega arith))
      (All-cons Low (put (3 * group + 3)) [] (low_unit (3 * group + 3) (omega arith)) (All-nil Low))))

  fdep_below : (q : ℕ) → q < fdeps → Below 2 (numbers_left (fdep_numbered count fdeps kind_here q))
  fdep_below q within =
      let Low : Numbered → Type 0 = λ (input : Numbered). height input.number < 2 in
      let small : 5 * q < count = fits q within in
      left_below 2 (fdep_numbered count fdeps kind_here q)
      (All-cons Low (put (3 * count + 1 + q % 10)) (put (3 * (5 * q) + 2) ∷ [])
      (low_unit (3 * count + 1 + q % 10) (omega arith))
      (All-cons Low (put (3 * (5 * q) + 2)) [] (low_unit (3 * (5 * q) + 2) (omega arith)) (All-nil Low)))

  abbrev later_gates : List NumberedGate
  later_gates = map (group_numbered count fdeps kind_here) (range_with_len 0 count) ++ map
      (fdep_numbered count fdeps kind_here) (range_with_len 0 fdeps)

  later_below : All (Below 2) (map numbers_left later_gates)
  later_below =
      All-map (Below 2) numbers_left later_gates
      (All-append (λ gate. Below 2 (numbers_left gate))
      (map (group_numbered count fdeps kind_here) (range_with_len 0 count))
      (map (fdep_numbered count fdeps kind_here) (range_with_len 0 fdeps))
      (All-range (λ gate. Below 2 (numbers_left gate)) (group_numbered count fdeps kind_here) 0 count
      (λ group low high. group_below group (omega arith)))
      (All-range (λ gate. Below 2 (numbers_left gate)) (fdep_numbered count fdeps kind_here) 0 fdeps
      (λ q low high. fdep_below q (omega arith))))

  below_gate : (x i : ℕ) → x ≡ units + 1 + i → Below (height x) (slice_index_or (input_lists units gates_here) i [])
  below_gate x zero is =
      let top : x ≡ units + 1 = omega arith in
      subst (λ bound. Below bound (numbers_left (top_numbered count fdeps kind_here)))
      (sym (ap height top ∙ height-top)) top_below
  below_gate x (suc i) is =
      subst (λ bound. Below bound (slice_index_or (map numbers_left later_gates) i []))
      (sym (height-gate x (omega arith)))
      (at_or (Below 2) (map numbers_left later_gates) [] later_below (All-nil (λ y. height y < 2)) i)

  -- ---- edges from units

  abbrev pair_of : NumberedGate → GateKind × List ℕ
  pair_of gate = (gate.kind, numbers_left gate)

  no_trigger : (place : ℕ) (unit : ℕ) (inputs : List ℕ) → trigger_by unit (slice_index_or made.kinds place And, inputs)
      ≡ None
  no_trigger place unit inputs =
      seven_kinds (λ kind. trigger_by unit (kind, inputs) ≡ None) refl refl refl refl refl refl refl place

  fdep_trigger : (unit trigger dependent z : ℕ) → 3 * count < trigger → trigger ≤ units → dependent ≤ 3 * count
      → cond (eqb dependent unit || false) (Some trigger) None ≡ Some z → height z < height unit
  fdep_trigger unit trigger dependent z high low under given = elim (cases_Bool (eqb dependent unit)) [
    | inl same ↦
        let is : Some trigger ≡ Some z = sym (ap (λ b. cond (b || false) (Some trigger) None) same) ∙ given in
        let here : trigger ≡ z = cc in
        let unit_is : dependent ≡ unit = eqb-true dependent unit same in
        let one = height-trigger trigger high low in
        let two = height-unit dependent under in
        subst (λ n. height n < height unit) here (subst (λ n. height trigger < height n) unit_is (omega arith))
    | inr other ↦ let clash : None ≡ Some z = sym (ap (λ b. cond (b || false) (Some trigger) None) other)
        ∙ given in absurd cc
  ]

  abbrev Triggers : ℕ → GateKind × List ℕ → Type 0
  Triggers unit gate = (z : ℕ) → trigger_by unit gate ≡ Some z → height z < height unit

  none_given : {P : Type 0} (z : ℕ) {o : Option ℕ} → o ≡ None → o ≡ Some z → P
  none_given z none given = let clash : None ≡ Some z = sym none ∙ given in absurd cc

  units_triggered : (unit : ℕ) → All (Triggers unit) (map pair_of gates_here)
  units_triggered unit =
      All-map (Triggers unit) pair_of gates_here
      (All-cons (λ gate. Triggers unit (pair_of gate)) (top_numbered count fdeps kind_here) later_gates
      (λ z given. none_given z refl given) (All-append (λ gate. Triggers unit (pair_of gate))
      (map (group_numbered count fdeps kind_here) (range_with_len 0 count))
      (map (fdep_numbered count fdeps kind_here) (range_with_len 0 fdeps))
      (All-range (λ gate. Triggers unit (pair_of gate)) (group_numbered count fdeps kind_here) 0 count
      (λ group low high z given.
      none_given z (no_trigger (place group) unit (numbers_left (group_numbered count fdeps kind_here group))) given))
      (All-range (λ gate. Triggers unit (pair_of gate)) (fdep_numbered count fdeps kind_here) 0 fdeps
      (λ q low high z given.
      let within : 5 * q < count = fits q (omega arith) in
      fdep_trigger unit (3 * count + 1 + q % 10) (3 * (5 * q) + 2) z (omega arith) (omega arith) (omega arith) given))))

  -- ---- all edges

  module _ (tree : FaultTree) (units_are : unit_count tree ≡ units) (kinds_are : tree.kinds ≡ kinds gates_here)
      (inputs_are : tree.inputs ≡ input_lists units gates_here) where
    abbrev inputs_here : ℕ → List ℕ
    inputs_here x = slice_index_or (input_lists units gates_here) (x - units - 1) []

    abbrev triggers_here : ℕ → List ℕ
    triggers_here x = filter_map (trigger_by x) (map pair_of gates_here)

    below_is : (x : ℕ) → below tree x ≡ cond (ltb units x) (inputs_here x) (triggers_here x)
    below_is x =
        ap (λ u. cond (ltb u x) (slice_index_or tree.inputs (x - u - 1) [])
        (filter_map (trigger_by x) (zip tree.kinds tree.inputs))) units_are
        ∙ ap (λ l. cond (ltb units x) (slice_index_or l (x - units - 1) [])
        (filter_map (trigger_by x) (zip tree.kinds l))) inputs_are
        ∙ ap (λ l. cond (ltb units x) (inputs_here x)
        (filter_map (trigger_by x) (zip l (input_lists units gates_here)))) kinds_are
        ∙ ap (λ l. cond (ltb units x) (inputs_here x) (filter_map (trigger_by x) l))
        (zip-maps (λ (gate : NumberedGate). gate.kind) numbers_left gates_here)

    among_all : (P : ℕ → Type 0) (xs : List ℕ) (y : ℕ) → All P xs → among xs y ≡ true → P y
    among_all P [] y each found = absurd cc
    among_all P (x ∷ xs) y each found = elim (cases_Bool (eqb x y)) [
      | inl same ↦ subst P (eqb-true x y same) (All-head P x xs each)
      | inr other ↦ among_all P xs y (All-tail P x xs each) (sym (ap (λ b. b || among xs y) other) ∙ found)
    ]

    falls : (x y : ℕ) → among (below tree x) y ≡ true → height y < height x
    falls x y found = elim (cases_lt units x) [
      | inl gate ↦
          let above : ltb units x ≡ true = lt-ltb units x gate in
          among_all (λ z. height z < height x) (inputs_here x) y
          (below_gate x (x - units - 1) (omega arith))
          (sym (ap (λ l. among l y) (below_is x ∙ ap (λ b. cond b (inputs_here x) (triggers_here x)) above)) ∙ found)
      | inr unit ↦
          let low : ltb units x ≡ false = le-ltb units x unit in
          triggered x (λ z. height z < height x) (map pair_of gates_here) y (units_triggered x)
          (sym (ap (λ l. among l y) (below_is x ∙ ap (λ b. cond b (inputs_here x) (triggers_here x)) low)) ∙ found)
    ]

    descends : {x y : ℕ} → LeadsTo tree x y → height y < height x
    descends {x} {y} (edge e) = falls x y e
    descends {x} (way {y = y} e later) = let one = falls x y e in let two = descends later in omega arith

    -- no node leads to itself
    pub none_cyclic : {x : ℕ} → ¬ LeadsTo tree x x
    none_cyclic leads = let lower = descends leads in omega arith
