-- Laws of the static reading: a node by what it reads, monotony, the empty set and the set of all units.
use Rattle.std.specs.Prelude.{◌≡◌, ℕ, zero, suc, ◌+◌, ◌-◌, ◌<◌, ◌≤◌, Bool, true, false, ◌&&◌, ◌||◌, List, [], ◌∷◌}
use Rattle.std.specs.Prelude.{if◌then◌else◌, length, All, count_by, get_or, nat_le}
use Rattle.std.specs.List.{list_any, list_all}
use Rattle.std.proofs.Common.{refl, ◌∙◌, ap, subst, inl, inr, arith}
use Rattle.std.proofs.lemmas.Bool.{cond_both, cases_lt, cases_Bool, ltb-true, ltb-false, leb-true, le-leb, lt-leb}
use Rattle.std.proofs.lemmas.Bool.{or_cases, or_left, or_right, or_from, and_from, and_parts, cond-true, cond-false}
use Rattle.std.proofs.{lemmas.List.get_or_past, lemmas.List.Recursion.is_count_by, lemmas.List.Elements.All-head}
use Rattle.std.proofs.{lemmas.List.Elements.All-tail}
use Rattle.fault_words.specs.declared.kind.GateKind.{GateKind}
use Rattle.fault_words.specs.declared.kind.GateKind.TheVariants.{And, Or, Votes, Pand, Por, Seq, Fdep, Csp, Wsp, Hsp}
use Rattle.fault_definitions.specs.Tree.{FaultTree, IsNodeOf, IsUnitOf, kind_of, inputs_of, is_above_units, is_fdep}
use Rattle.fault_definitions.specs.Tree.{is_fdep_kind, unit_count, rank_of}
use Rattle.fault_definitions.specs.{Trigger.triggers_of, Rank.within, Rank.by_rank}
use Rattle.fault_definitions.proofs.RankLaws.{AgreesBelow, by_rank-node, gate_sound, below_ranks}
use Rattle.fault_definitions.specs.WellFormed.{IsTree, IsSoundGate, IsSoundKind}
use Rattle.fault_definitions.specs.Reading.{Within}
use Rattle.fault_definitions.specs.Reading.{true_count, gate_reads, node_reads, reads}

-- ---- a node by what it reads

module _ (f g : ℕ → Bool) where
  abbrev Agree : ℕ → Type 0
  Agree input = f input ≡ g input

  pub list_any-agree : (inputs : List ℕ) → All (λ input. f input ≡ g input) inputs
      → list_any f inputs ≡ list_any g inputs
  list_any-agree [] same = refl
  list_any-agree (input ∷ inputs) same =
      let e = All-head Agree input inputs same in let rest = list_any-agree inputs (All-tail Agree input inputs same) in
      cc

  pub list_all-agree : (inputs : List ℕ) → All (λ input. f input ≡ g input) inputs
      → list_all f inputs ≡ list_all g inputs
  list_all-agree [] same = refl
  list_all-agree (input ∷ inputs) same =
      let e = All-head Agree input inputs same in let rest = list_all-agree inputs (All-tail Agree input inputs same) in
      cc

  pub true_count-agree : (inputs : List ℕ) → All (λ input. f input ≡ g input) inputs
      → true_count f inputs ≡ true_count g inputs
  true_count-agree [] same = refl
  true_count-agree (input ∷ inputs) same =
      let e = All-head Agree input inputs same in let rest =
      true_count-agree inputs (All-tail Agree input inputs same) in cc

  pub gate_reads-agree : (kind : GateKind) (inputs : List ℕ) → All (λ input. f input ≡ g input) inputs
      → gate_reads kind f inputs ≡ gate_reads kind g inputs
  gate_reads-agree And inputs same = list_all-agree inputs same
  gate_reads-agree Or inputs same = list_any-agree inputs same
  gate_reads-agree (Votes least of) inputs same = ap (nat_le least) (true_count-agree inputs same)
  gate_reads-agree Pand inputs same = list_all-agree inputs same
  gate_reads-agree Por [] same = refl
  gate_reads-agree Por (input ∷ inputs) same = All-head Agree input inputs same
  gate_reads-agree Seq inputs same = list_all-agree inputs same
  gate_reads-agree Fdep inputs same = refl
  gate_reads-agree Csp inputs same = list_all-agree inputs same
  gate_reads-agree Wsp inputs same = list_all-agree inputs same
  gate_reads-agree Hsp inputs same = list_all-agree inputs same

-- two choices of the same part are equal where the parts are
choice-agree : (above : Bool) (inputs triggers : List ℕ) (P : ℕ → Type 0) (x y x' y' : Bool)
    → All P (if above then inputs else triggers) → (All P inputs → x ≡ x') → (All P triggers → y ≡ y')
    → (if above then x else y) ≡ (if above then x' else y')
choice-agree true inputs triggers P x y x' y' same gate unit = gate same
choice-agree false inputs triggers P x y x' y' same gate unit = unit same

pub node_reads-agree : (tree : FaultTree) (set : ℕ → Bool) → AgreesBelow tree (node_reads tree set)
node_reads-agree tree set f g node same =
    choice-agree (is_above_units tree node) (inputs_of tree node) (triggers_of tree node) (λ n. f n ≡ g n)
    (gate_reads (kind_of tree node) f (inputs_of tree node)) (set node || list_any f (triggers_of tree node))
    (gate_reads (kind_of tree node) g (inputs_of tree node)) (set node || list_any g (triggers_of tree node))
    same
    (gate_reads-agree f g (kind_of tree node) (inputs_of tree node))
    (λ s. ap (λ b. set node || b) (list_any-agree f g (triggers_of tree node) s))

-- The reading of a node is by those of what it reads.
pub reads-node : (tree : FaultTree) → IsTree tree → (set : ℕ → Bool) (node : ℕ) → IsNodeOf tree node
    → reads tree set node ≡ node_reads tree set (reads tree set) node
unfolding reads
reads-node tree kept set node is_node =
    by_rank-node kept false (node_reads tree set) (node_reads-agree tree set) node is_node

-- the count is std's
pub true_count-count_by : (f : ℕ → Bool) (inputs : List ℕ) → true_count f inputs ≡ count_by f inputs
true_count-count_by f inputs =
    is_count_by (true_count f) f refl (λ input others. by_test (f input) (true_count f others)) inputs
  where
    by_test : (b : Bool) (n : ℕ) → (if b then 1 else 0) + n ≡ (if b then 1 + n else n)
    by_test true n = refl
    by_test false n = omega arith

-- ---- monotony

counted_rises : (a b : Bool) (m n : ℕ) → (a ≡ true → b ≡ true) → m ≤ n
    → (if a then 1 else 0) + m ≤ (if b then 1 else 0) + n
counted_rises true true m n h le = omega arith
counted_rises true false m n h le = let e = h refl in absurd cc
counted_rises false true m n h le = omega arith
counted_rises false false m n h le = omega arith

module _ (f g : ℕ → Bool) (rises : Within f g) where
  list_any-rises : (inputs : List ℕ) → list_any f inputs ≡ true → list_any g inputs ≡ true
  list_any-rises [] h = h
  list_any-rises (input ∷ inputs) h =
      elim (or_cases (f input) (list_any f inputs) h) [
        | inl here ↦ or_left (g input) (list_any g inputs) (rises.kept input here)
        | inr later ↦ or_right (g input) (list_any g inputs) (list_any-rises inputs later)
      ]

  list_all-rises : (inputs : List ℕ) → list_all f inputs ≡ true → list_all g inputs ≡ true
  list_all-rises [] h = h
  list_all-rises (input ∷ inputs) h =
      let parts = and_parts (f input) (list_all f inputs) h in
      let first = rises.kept input parts.0 in
      let rest = list_all-rises inputs parts.1 in
      cc

  pub true_count-rises : (inputs : List ℕ) → true_count f inputs ≤ true_count g inputs
  true_count-rises [] = omega arith
  true_count-rises (input ∷ inputs) =
      counted_rises (f input) (g input) (true_count f inputs) (true_count g inputs) (rises.kept input)
      (true_count-rises inputs)

  pub gate_reads-rises : (kind : GateKind) (inputs : List ℕ) → gate_reads kind f inputs ≡ true
      → gate_reads kind g inputs ≡ true
  gate_reads-rises And inputs h = list_all-rises inputs h
  gate_reads-rises Or inputs h = list_any-rises inputs h
  gate_reads-rises (Votes least of) inputs h =
      le-leb least (true_count g inputs) (omega (
        arith,
        leb-true least (true_count f inputs) h,
        true_count-rises inputs,
      ))
  gate_reads-rises Pand inputs h = list_all-rises inputs h
  gate_reads-rises Por [] h = h
  gate_reads-rises Por (input ∷ inputs) h = rises.kept input h
  gate_reads-rises Seq inputs h = list_all-rises inputs h
  gate_reads-rises Fdep inputs h = h
  gate_reads-rises Csp inputs h = list_all-rises inputs h
  gate_reads-rises Wsp inputs h = list_all-rises inputs h
  gate_reads-rises Hsp inputs h = list_all-rises inputs h

choice-rises : (above x y x' y' : Bool) → (x ≡ true → x' ≡ true) → (y ≡ true → y' ≡ true)
    → (if above then x else y) ≡ true → (if above then x' else y') ≡ true
choice-rises true x y x' y' gate unit h = gate h
choice-rises false x y x' y' gate unit h = unit h

or-rises : (a b c d : Bool) → (a ≡ true → c ≡ true) → (b ≡ true → d ≡ true) → (a || b) ≡ true → (c || d) ≡ true
or-rises a b c d left right h =
    elim (or_cases a b h) [ inl at_left ↦ or_left c d (left at_left) | inr at_right ↦ or_right c d (right at_right) ]

module _ (tree : FaultTree) (small large : ℕ → Bool) (more : Within small large) where
  node_reads-rises : (f g : ℕ → Bool) → Within f g → (node : ℕ) → node_reads tree small f node ≡ true
      → node_reads tree large g node ≡ true
  node_reads-rises f g rises node h =
      choice-rises (is_above_units tree node) _ _ _ _
      (gate_reads-rises f g rises (kind_of tree node) (inputs_of tree node))
      (or-rises _ _ _ _ (more.kept node) (list_any-rises f g rises (triggers_of tree node)))
      h

  within-rises : (depth : ℕ) → Within (within false (node_reads tree small) depth)
      (within false (node_reads tree large) depth)
  within-rises zero = record { kept = λ n h. h }
  within-rises (suc depth) = record { kept = λ n. node_reads-rises _ _ (within-rises depth) n }

  -- The reading is monotone: a larger set fails every node that a smaller one does.
  pub reads-rises : (node : ℕ) → reads tree small node ≡ true → reads tree large node ≡ true
  unfolding reads by_rank
  reads-rises node h = (within-rises (suc _)).kept node h

-- ---- the empty set

module _ (f : ℕ → Bool) (none : (n : ℕ) → f n ≡ false) where
  list_any-none : (inputs : List ℕ) → list_any f inputs ≡ false
  list_any-none [] = refl
  list_any-none (input ∷ inputs) = let e = none input in let rest = list_any-none inputs in cc

  list_all-none : (inputs : List ℕ) → 1 ≤ length inputs → list_all f inputs ≡ false
  list_all-none [] some = absurd (omega arith)
  list_all-none (input ∷ inputs) some = let e = none input in cc

  true_count-none : (inputs : List ℕ) → true_count f inputs ≡ 0
  true_count-none [] = refl
  true_count-none (input ∷ inputs) = let e = none input in let rest = true_count-none inputs in cc

  gate_reads-none : (tree : FaultTree) (kind : GateKind) (inputs : List ℕ) → IsSoundKind tree kind inputs
      → gate_reads kind f inputs ≡ false
  gate_reads-none tree And inputs sound = list_all-none inputs sound
  gate_reads-none tree Or inputs sound = list_any-none inputs
  gate_reads-none tree (Votes least of) inputs sound =
      lt-leb least (true_count f inputs) (omega (arith, sound.some, true_count-none inputs))
  gate_reads-none tree Pand inputs sound = list_all-none inputs sound
  gate_reads-none tree Por [] sound = refl
  gate_reads-none tree Por (input ∷ inputs) sound = none input
  gate_reads-none tree Seq inputs sound = list_all-none inputs sound
  gate_reads-none tree Fdep inputs sound = refl
  gate_reads-none tree Csp inputs sound = list_all-none inputs sound.enough
  gate_reads-none tree Wsp inputs sound = list_all-none inputs sound.enough
  gate_reads-none tree Hsp inputs sound = list_all-none inputs sound.enough

module _ {tree : FaultTree} (kept : IsTree tree) (set : ℕ → Bool) (empty : (n : ℕ) → set n ≡ false) where
  gate_number_reads-none : (f : ℕ → Bool) → ((n : ℕ) → f n ≡ false) → (gate : ℕ) → is_above_units tree gate ≡ true
      → gate_reads (kind_of tree gate) f (inputs_of tree gate) ≡ false
  gate_number_reads-none f none gate above =
      let at : ℕ = gate - unit_count tree - 1 in
      let higher : unit_count tree < gate = ltb-true (unit_count tree) gate above in
      elim (cases_lt at (length tree.kinds)) [
        | inl reach ↦ gate_reads-none f none tree (kind_of tree gate) (inputs_of tree gate)
            (gate_sound kept gate (higher, omega arith)).kind
        | inr past ↦ ap (λ kind. gate_reads kind f (inputs_of tree gate)) (get_or_past tree.kinds at Fdep past)
      ]

  within-none : (depth node : ℕ) → within false (node_reads tree set) depth node ≡ false
  within-none zero node = refl
  within-none (suc depth) node =
      let f : ℕ → Bool = within false (node_reads tree set) depth in
      cond_both (is_above_units tree node) (gate_reads (kind_of tree node) f (inputs_of tree node))
      (set node || list_any f (triggers_of tree node))
      (λ read. read ≡ false)
      (gate_number_reads-none f (within-none depth) node)
      (λ _. or_from (set node) (list_any f (triggers_of tree node)) (empty node)
      (list_any-none f (within-none depth) (triggers_of tree node)))

  -- A set without members fails no node.
  pub reads-empty : (node : ℕ) → reads tree set node ≡ false
  unfolding reads by_rank
  reads-empty node = within-none (suc _) node

-- ---- the set of all units

counted : (a : Bool) {m n : ℕ} → a ≡ true → m ≡ n → (if a then 1 else 0) + m ≡ suc n
counted true e same = omega arith
counted false e same = absurd cc

fdep_kind : (above : Bool) {fdep : Bool} → above ≡ true → (above && fdep) ≡ false → fdep ≡ false
fdep_kind true e h = h
fdep_kind false e h = absurd cc

module _ (f : ℕ → Bool) where
  list_any-all : (inputs : List ℕ) → 1 ≤ length inputs → All (λ n. f n ≡ true) inputs → list_any f inputs ≡ true
  list_any-all [] some all = absurd (omega arith)
  list_any-all (input ∷ inputs) some all =
      or_left (f input) (list_any f inputs) (All-head (λ n. f n ≡ true) input inputs all)

  list_all-all : (inputs : List ℕ) → All (λ n. f n ≡ true) inputs → list_all f inputs ≡ true
  list_all-all [] all = refl
  list_all-all (input ∷ inputs) all =
      and_from (f input) (list_all f inputs) (All-head (λ n. f n ≡ true) input inputs all)
      (list_all-all inputs (All-tail (λ n. f n ≡ true) input inputs all))

  true_count-all : (inputs : List ℕ) → All (λ n. f n ≡ true) inputs → true_count f inputs ≡ length inputs
  true_count-all [] all = refl
  true_count-all (input ∷ inputs) all =
      let e = All-head (λ n. f n ≡ true) input inputs all in
      let rest = true_count-all inputs (All-tail (λ n. f n ≡ true) input inputs all) in
      counted (f input) e rest

  gate_reads-all : (tree : FaultTree) (kind : GateKind) (inputs : List ℕ) → is_fdep_kind kind ≡ false
      → IsSoundKind tree kind inputs → All (λ n. f n ≡ true) inputs → gate_reads kind f inputs ≡ true
  gate_reads-all tree And inputs read sound all = list_all-all inputs all
  gate_reads-all tree Or inputs read sound all = list_any-all inputs sound all
  gate_reads-all tree (Votes least of) inputs read sound all =
      le-leb least (true_count f inputs) (omega (arith, sound.enough, sound.counted, true_count-all inputs all))
  gate_reads-all tree Pand inputs read sound all = list_all-all inputs all
  gate_reads-all tree Por [] read sound all = absurd (omega (arith, sound))
  gate_reads-all tree Por (input ∷ inputs) read sound all = All-head (λ n. f n ≡ true) input inputs all
  gate_reads-all tree Seq inputs read sound all = list_all-all inputs all
  gate_reads-all tree Fdep inputs read sound all = absurd cc
  gate_reads-all tree Csp inputs read sound all = list_all-all inputs all
  gate_reads-all tree Wsp inputs read sound all = list_all-all inputs all
  gate_reads-all tree Hsp inputs read sound all = list_all-all inputs all

module _ {tree : FaultTree} (kept : IsTree tree) (set : ℕ → Bool)
    (full : (unit : ℕ) → IsUnitOf tree unit → set unit ≡ true) where
  all_read : (bound node : ℕ) → IsNodeOf tree node → is_fdep tree node ≡ false → rank_of tree node < bound
      → reads tree set node ≡ true
  all_read zero node is_node read low = absurd (omega arith)
  all_read (suc bound) node is_node read low =
      elim (cases_Bool (is_above_units tree node)) [
        | inl above ↦
            let higher : unit_count tree < node = ltb-true (unit_count tree) node above in
            let gate : IsSoundGate tree (kind_of tree node, inputs_of tree node) =
            gate_sound kept node (higher, is_node.1) in
            let lower : All (λ n. rank_of tree n < rank_of tree node) (inputs_of tree node) =
            subst (All (λ n. rank_of tree n < rank_of tree node))
            (cond-true (is_above_units tree node) (inputs_of tree node) (triggers_of tree node) above)
            (below_ranks kept node is_node) in
            let kind : is_fdep_kind (kind_of tree node) ≡ false = fdep_kind (is_above_units tree node) above read in
            reads-node tree kept set node is_node
            ∙ cond-true (is_above_units tree node) _ _ above
            ∙ gate_reads-all (reads tree set) tree (kind_of tree node) (inputs_of tree node) kind gate.kind
            (λ k d short. all_read bound (get_or (inputs_of tree node) k d) (gate.nodes k d short) (gate.read k d short)
            (let low' = lower k d short in omega arith))
        | inr unit ↦
            let reach : node ≤ unit_count tree = ltb-false (unit_count tree) node unit in
            reads-node tree kept set node is_node
            ∙ cond-false (is_above_units tree node) _ _ unit
            ∙ or_left (set node) _ (full node (is_node.0, reach))
      ]

  -- The set of all units fails every node but an `fdep`.
  pub reads-full : (node : ℕ) → IsNodeOf tree node → is_fdep tree node ≡ false → reads tree set node ≡ true
  reads-full node is_node read = all_read (suc (rank_of tree node)) node is_node read (omega arith)
