-- Laws of steps: a node by what it reads, and the static bound: what fails at some step reads true.
use Rattle.std.specs.Prelude.{◌≡◌, ℕ, zero, suc, ◌+◌, ◌≤◌, Bool, true, false, ◌&&◌, ◌||◌, ◌==◌, List, [], ◌∷◌, Some}
use Rattle.std.specs.Prelude.{None, is_some, filter, if◌then◌else◌, All, nat_le}
use Rattle.std.specs.List.{list_any, list_all}
use Rattle.std.proofs.Common.{refl, ap, subst, inl, inr, arith}
use Rattle.std.proofs.lemmas.Bool.{cases_Bool, leb-true, le-leb, or_cases, or_left, or_right, and_from, and_parts}
use Rattle.std.proofs.lemmas.Bool.{cond-false, cond_both}
use Rattle.std.proofs.lemmas.List.Elements.{All-head, All-tail}
use Rattle.unit_sets.specs.UnitList.{among}
use Rattle.fault_words.specs.declared.kind.GateKind.{GateKind}
use Rattle.fault_words.specs.declared.kind.GateKind.TheVariants.{And, Or, Votes, Pand, Por, Seq, Fdep, Csp, Wsp, Hsp}
use Rattle.fault_definitions.specs.Tree.{FaultTree, IsNodeOf, kind_of, inputs_of, is_above_units}
use Rattle.fault_definitions.specs.{Trigger.triggers_of, Rank.within, Rank.by_rank, WellFormed.IsTree}
use Rattle.fault_definitions.proofs.RankLaws.{AgreesBelow, by_rank-node}
use Rattle.fault_definitions.specs.Reading.{true_count, gate_reads, node_reads, reads}
use Rattle.fault_definitions.proofs.ReadingLaws.{true_count-agree, list_all-agree}
use Rattle.fault_definitions.specs.Step.{Step, never, no_later, earlier, later, earliest, latest, last_step}
use Rattle.fault_definitions.specs.Step.{never_falls}
use Rattle.fault_definitions.specs.Step.{failed_by, kth_step, gate_step, place_from, place, node_step, step}

-- ---- a node by what it reads

module _ (f g : ℕ → Step) where
  abbrev Agree : ℕ → Type 0
  Agree input = f input ≡ g input

  earliest-agree : (nodes : List ℕ) → All Agree nodes → earliest f nodes ≡ earliest g nodes
  earliest-agree [] same = refl
  earliest-agree (node ∷ nodes) same =
      let e = All-head Agree node nodes same in let rest = earliest-agree nodes (All-tail Agree node nodes same) in cc

  latest-agree : (nodes : List ℕ) → All Agree nodes → latest f nodes ≡ latest g nodes
  latest-agree [] same = refl
  latest-agree (node ∷ nodes) same =
      let e = All-head Agree node nodes same in let rest = latest-agree nodes (All-tail Agree node nodes same) in cc

  last_step-agree : (nodes : List ℕ) → All Agree nodes → last_step f nodes ≡ last_step g nodes
  last_step-agree [] same = refl
  last_step-agree (node ∷ []) same = All-head Agree node [] same
  last_step-agree (node ∷ next ∷ nodes) same = last_step-agree (next ∷ nodes) (All-tail Agree node (next ∷ nodes) same)

  pub never_falls-agree : (nodes : List ℕ) → All (λ node. f node ≡ g node) nodes
      → never_falls f nodes ≡ never_falls g nodes
  never_falls-agree [] same = refl
  never_falls-agree (node ∷ []) same = refl
  never_falls-agree (node ∷ next ∷ nodes) same =
      let e = All-head Agree node (next ∷ nodes) same in
      let tail : All Agree (next ∷ nodes) = All-tail Agree node (next ∷ nodes) same in
      let e' = All-head Agree next nodes tail in
      let rest = never_falls-agree (next ∷ nodes) tail in
      cc

  earliest_passing-agree : (p q : ℕ → Bool) (nodes : List ℕ) → All Agree nodes → All (λ node. p node ≡ q node) nodes
      → earliest f (filter p nodes) ≡ earliest g (filter q nodes)
  earliest_passing-agree p q [] same tests = refl
  earliest_passing-agree p q (node ∷ nodes) same tests =
      passing (p node) (q node) (All-head (λ n. p n ≡ q n) node nodes tests) node (filter p nodes) (filter q nodes)
      (All-head Agree node nodes same)
      (earliest_passing-agree p q nodes (All-tail Agree node nodes same) (All-tail (λ n. p n ≡ q n) node nodes tests))
    where
      passing : (a b : Bool) → a ≡ b → (node : ℕ) (xs ys : List ℕ) → f node ≡ g node → earliest f xs ≡ earliest g ys
          → earliest f (if a then node ∷ xs else xs) ≡ earliest g (if b then node ∷ ys else ys)
      passing true true e n xs ys here rest = cc
      passing true false e n xs ys here rest = absurd cc
      passing false true e n xs ys here rest = absurd cc
      passing false false e n xs ys here rest = rest

  kth_step-agree : (least : ℕ) (nodes : List ℕ) → All Agree nodes → kth_step least f nodes ≡ kth_step least g nodes
  kth_step-agree least nodes same =
      earliest_passing-agree (λ node. nat_le least (failed_by f nodes (f node)))
      (λ node. nat_le least (failed_by g nodes (g node))) nodes same
      (λ k d short. ap (nat_le least) (true_count-agree _ _ nodes
      (λ j e below. let here = same k d short in let there = same j e below in cc)))

  pub gate_step-agree : (kind : GateKind) (inputs : List ℕ) → All (λ input. f input ≡ g input) inputs
      → gate_step kind f inputs ≡ gate_step kind g inputs
  gate_step-agree And inputs same = latest-agree inputs same
  gate_step-agree Or inputs same = earliest-agree inputs same
  gate_step-agree (Votes least of) inputs same = kth_step-agree least inputs same
  gate_step-agree Pand inputs same =
      let falls = never_falls-agree inputs same in let last = last_step-agree inputs same in cc
  gate_step-agree Por [] same = refl
  gate_step-agree Por (input ∷ inputs) same =
      let first = All-head Agree input inputs same in
      let others = list_all-agree (λ other. no_later (f input) (f other)) (λ other. no_later (g input) (g other)) inputs
      (λ k d short. let here = All-tail Agree input inputs same k d short in cc) in
      cc
  gate_step-agree Seq inputs same = latest-agree inputs same
  gate_step-agree Fdep inputs same = refl
  gate_step-agree Csp inputs same = latest-agree inputs same
  gate_step-agree Wsp inputs same = latest-agree inputs same
  gate_step-agree Hsp inputs same = latest-agree inputs same

choice-agree : (above : Bool) (inputs triggers : List ℕ) (P : ℕ → Type 0) (x y x' y' : Step)
    → All P (if above then inputs else triggers) → (All P inputs → x ≡ x') → (All P triggers → y ≡ y')
    → (if above then x else y) ≡ (if above then x' else y')
choice-agree true inputs triggers P x y x' y' same gate unit = gate same
choice-agree false inputs triggers P x y x' y' same gate unit = unit same

pub node_step-agree : (tree : FaultTree) (order : List ℕ) → AgreesBelow tree (node_step tree order)
node_step-agree tree order f g node same =
    choice-agree (is_above_units tree node) (inputs_of tree node) (triggers_of tree node) (λ n. f n ≡ g n)
    (gate_step (kind_of tree node) f (inputs_of tree node))
    (earlier (place order node) (earliest f (triggers_of tree node)))
    (gate_step (kind_of tree node) g (inputs_of tree node))
    (earlier (place order node) (earliest g (triggers_of tree node)))
    same
    (gate_step-agree f g (kind_of tree node) (inputs_of tree node))
    (λ s. ap (earlier (place order node)) (earliest-agree f g (triggers_of tree node) s))

-- The step of a node is by those of what it reads.
pub step-node : (tree : FaultTree) → IsTree tree → (order : List ℕ) (node : ℕ) → IsNodeOf tree node
    → step tree order node ≡ node_step tree order (step tree order) node
unfolding step
step-node tree kept order node is_node =
    by_rank-node kept never (node_step tree order) (node_step-agree tree order) node is_node

-- ---- the static bound

-- a step that a number is no earlier than is no number only where it is never
some_before : (step other : Step) → no_later step other ≡ true → is_some other ≡ true → is_some step ≡ true
some_before (Some number) other h some = refl
some_before None (Some number) h some = absurd cc
some_before None None h some = some

earlier_is_some : (step other : Step) → is_some (earlier step other) ≡ true → (is_some step || is_some other) ≡ true
earlier_is_some (Some number) other h = refl
earlier_is_some None (Some number) h = refl
earlier_is_some None None h = h

later_is_some : (step other : Step) → is_some (later step other) ≡ true → (is_some step && is_some other) ≡ true
later_is_some None None h = h
later_is_some None (Some number) h = h
later_is_some (Some number) None h = h
later_is_some (Some number) (Some other) h = refl

-- what has a step reads true
pub record Bounds (reading : ℕ → Bool) (step_of : ℕ → Step) : Type 0 where
  pub reads : (node : ℕ) → is_some (step_of node) ≡ true → reading node ≡ true

module _ {r : ℕ → Bool} {f : ℕ → Step} (bounds : Bounds r f) where
  earliest-bound : (nodes : List ℕ) → is_some (earliest f nodes) ≡ true → list_any r nodes ≡ true
  earliest-bound [] h = h
  earliest-bound (node ∷ nodes) h =
      elim (or_cases (is_some (f node)) (is_some (earliest f nodes)) (earlier_is_some (f node) (earliest f nodes) h)) [
        | inl here ↦ or_left (r node) (list_any r nodes) (bounds.reads node here)
        | inr later ↦ or_right (r node) (list_any r nodes) (earliest-bound nodes later)
      ]

  latest-bound : (nodes : List ℕ) → is_some (latest f nodes) ≡ true → list_all r nodes ≡ true
  latest-bound [] h = refl
  latest-bound (node ∷ nodes) h =
      let parts = and_parts (is_some (f node)) (is_some (latest f nodes)) (later_is_some (f node) (latest f nodes) h) in
      and_from (r node) (list_all r nodes) (bounds.reads node parts.0) (latest-bound nodes parts.1)

  -- where the steps fall nowhere, all come no later than the last
  pand-bound : (nodes : List ℕ) → never_falls f nodes ≡ true → is_some (last_step f nodes) ≡ true
      → list_all r nodes ≡ true
  pand-bound [] rising h = refl
  pand-bound (node ∷ []) rising h = and_from (r node) true (bounds.reads node h) refl
  pand-bound (node ∷ next ∷ nodes) rising h =
      let parts = and_parts (no_later (f node) (f next)) (never_falls f (next ∷ nodes)) rising in
      let rest = pand-bound (next ∷ nodes) parts.1 h in
      let first_falls_not : is_some (f node) ≡ true =
      some_before (f node) (f next) parts.0 (first_is_some next nodes parts.1 h) in
      and_from (r node) (list_all r (next ∷ nodes)) (bounds.reads node first_falls_not) rest
    where
      first_is_some : (first : ℕ) (others : List ℕ) → never_falls f (first ∷ others) ≡ true
          → is_some (last_step f (first ∷ others)) ≡ true → is_some (f first) ≡ true
      first_is_some first [] up last = last
      first_is_some first (second ∷ others) up last =
          let parts = and_parts (no_later (f first) (f second)) (never_falls f (second ∷ others)) up in
          some_before (f first) (f second) parts.0 (first_is_some second others parts.1 last)

  -- as many positions read true as have failed by a step
  counts-bound : (number : ℕ) (nodes : List ℕ) → failed_by f nodes (Some number) ≤ true_count r nodes
  counts-bound number [] = omega arith
  counts-bound number (node ∷ nodes) =
      counted (no_later (f node) (Some number)) (r node) _ _
      (λ by. bounds.reads node (some_before (f node) (Some number) by refl)) (counts-bound number nodes)
    where
      counted : (a b : Bool) (m n : ℕ) → (a ≡ true → b ≡ true) → m ≤ n
          → (if a then 1 else 0) + m ≤ (if b then 1 else 0) + n
      counted true true m n h le = omega arith
      counted true false m n h le = let e = h refl in absurd cc
      counted false true m n h le = omega arith
      counted false false m n h le = omega arith

  some_passing : (p : ℕ → Bool) (nodes : List ℕ) → is_some (earliest f (filter p nodes)) ≡ true
      → (n : ℕ) × (p n ≡ true) × (is_some (f n) ≡ true)
  some_passing p [] h = absurd cc
  some_passing p (node ∷ nodes) h =
      cond_both (p node) (node ∷ filter p nodes) (filter p nodes)
      (λ kept. is_some (earliest f kept) ≡ true → (n : ℕ) × (p n ≡ true) × (is_some (f n) ≡ true))
      (λ passes some. elim (or_cases (is_some (f node)) (is_some (earliest f (filter p nodes)))
      (earlier_is_some (f node) (earliest f (filter p nodes)) some)) [
        | inl here ↦ (node, passes, here)
        | inr later ↦ some_passing p nodes later
      ])
      (λ _ some. some_passing p nodes some)
      h

  votes_at : (least : ℕ) (nodes : List ℕ) (at : Step) → nat_le least (failed_by f nodes at) ≡ true → is_some at ≡ true
      → nat_le least (true_count r nodes) ≡ true
  votes_at least nodes None enough some = absurd cc
  votes_at least nodes (Some number) enough some =
      le-leb least (true_count r nodes) (omega (
        arith,
        leb-true least (failed_by f nodes (Some number)) enough,
        counts-bound number nodes,
      ))

  kth-bound : (least : ℕ) (nodes : List ℕ) → is_some (kth_step least f nodes) ≡ true
      → nat_le least (true_count r nodes) ≡ true
  kth-bound least nodes h =
      let found = some_passing (λ node. nat_le least (failed_by f nodes (f node))) nodes h in
      votes_at least nodes (f found.0) found.1 found.2

  choice_is_some : (test : Bool) (at : Step) → is_some (if test then at else never) ≡ true
      → (test ≡ true) × (is_some at ≡ true)
  choice_is_some true at h = (refl, h)
  choice_is_some false at h = absurd cc

  gate_step-bound : (kind : GateKind) (inputs : List ℕ) → is_some (gate_step kind f inputs) ≡ true
      → gate_reads kind r inputs ≡ true
  gate_step-bound And inputs h = latest-bound inputs h
  gate_step-bound Or inputs h = earliest-bound inputs h
  gate_step-bound (Votes least of) inputs h = kth-bound least inputs h
  gate_step-bound Pand inputs h =
      let parts = choice_is_some (never_falls f inputs) (last_step f inputs) h in pand-bound inputs parts.0 parts.1
  gate_step-bound Por [] h = h
  gate_step-bound Por (input ∷ inputs) h =
      bounds.reads input (choice_is_some (list_all (λ other. no_later (f input) (f other)) inputs) (f input) h).1
  gate_step-bound Seq inputs h = latest-bound inputs h
  gate_step-bound Fdep inputs h = h
  gate_step-bound Csp inputs h = latest-bound inputs h
  gate_step-bound Wsp inputs h = latest-bound inputs h
  gate_step-bound Hsp inputs h = latest-bound inputs h

place_from-among : (first : ℕ) (order : List ℕ) (unit : ℕ) → is_some (place_from first order unit) ≡ true
    → among order unit ≡ true
place_from-among first [] unit h = h
place_from-among first (failed ∷ order) unit h =
    elim (cases_Bool (failed == unit)) [
      | inl here ↦ or_left (failed == unit) (among order unit) here
      | inr other ↦
          or_right (failed == unit) (among order unit) (place_from-among (suc first) order unit
          (subst (λ at. is_some at ≡ true) (cond-false (failed == unit) (Some first) (place_from (suc first) order unit)
          other) h))
    ]

choice-bound : (above : Bool) (gate unit : Step) (x y : Bool) → (is_some gate ≡ true → x ≡ true)
    → (is_some unit ≡ true → y ≡ true) → is_some (if above then gate else unit) ≡ true → (if above then x else y) ≡ true
choice-bound true gate unit x y at_gate at_unit h = at_gate h
choice-bound false gate unit x y at_gate at_unit h = at_unit h

module _ (tree : FaultTree) (order : List ℕ) where
  node_step-bound : {r : ℕ → Bool} {f : ℕ → Step} → Bounds r f → (node : ℕ)
      → is_some (node_step tree order f node) ≡ true → node_reads tree (among order) r node ≡ true
  node_step-bound {r} {f} bounds node h =
      choice-bound (is_above_units tree node) _ _ _ _ (gate_step-bound bounds (kind_of tree node) (inputs_of tree node))
      (λ some. elim (or_cases (is_some (place order node)) (is_some (earliest f (triggers_of tree node)))
      (earlier_is_some (place order node) (earliest f (triggers_of tree node)) some)) [
        | inl own ↦ or_left (among order node) (list_any r (triggers_of tree node)) (place_from-among 1 order node own)
        | inr triggered ↦ or_right (among order node) (list_any r (triggers_of tree node))
            (earliest-bound bounds (triggers_of tree node) triggered)
      ])
      h

  within-bound : (depth : ℕ) → Bounds (within false (node_reads tree (among order)) depth)
      (within never (node_step tree order) depth)
  within-bound zero = record { reads = λ node h. h }
  within-bound (suc depth) = record { reads = λ node. node_step-bound (within-bound depth) node }

  -- The static bound: a node that fails at some step of an order reads true under the order's units.
  pub step-reads : (node : ℕ) → is_some (step tree order node) ≡ true → reads tree (among order) node ≡ true
  unfolding reads step by_rank
  step-reads node h = (within-bound (suc _)).reads node h
