-- The dual reading: a gate stays in service by its dual kind, and a unit with itself and each of its triggers.
use Rattle.std.specs.Prelude.{◌≡◌, ℕ, suc, ◌+◌, ◌-◌, ◌≤◌, Bool, true, false, not, ◌&&◌, ◌||◌, nat_le, List, [], ◌∷◌}
use Rattle.std.specs.Prelude.{length, if◌then◌else◌}
use Rattle.std.specs.List.{list_any, list_all}
use Rattle.std.proofs.Common.{refl, sym, ◌∙◌, ap, inl, inr, arith}
use Rattle.std.proofs.lemmas.Bool.{cases_lt, cond-true, cond-false, le-leb, lt-leb, ltb-true}
use Rattle.fault_words.specs.declared.kind.GateKind.{GateKind}
use Rattle.fault_words.specs.declared.kind.GateKind.TheVariants.{Or, Votes, Por, Fdep}
use Rattle.fault_definitions.specs.Reading.{gate_reads, reads, true_count}
use Rattle.fault_definitions.proofs.{ReadingLaws.reads-node, RankLaws.gate_sound}
use Rattle.fault_definitions.specs.Tree.{FaultTree, IsNodeOf, inputs_of, is_above_units, is_fdep, is_fdep_kind, kind_of}
use Rattle.fault_definitions.specs.Tree.{unit_count}
use Rattle.fault_definitions.specs.{Trigger.triggers_of, WellFormed.IsSoundKind, WellFormed.IsTree}
use Rattle.zdd_nodes.specs.Reading.{CanVote}
use Rattle.path_sets.specs.{Dual.CanTurn, Dual.dual_kind, Paths.serves}

-- ---- a test that is turned round

not_or : (a b : Bool) → (not a && not b) ≡ not (a || b)
not_or true b = refl
not_or false b = refl

not_and : (a b : Bool) → (not a || not b) ≡ not (a && b)
not_and true b = refl
not_and false b = refl

counted : (b : Bool) (m n : ℕ) {k : ℕ} → m + n ≡ k
    → ((if not b then 1 else 0) + m) + ((if b then 1 else 0) + n) ≡ suc k
counted true m n e = omega (arith, e)
counted false m n e = omega (arith, e)

-- K of N read true unless N-K+1 of N read false
votes_turned : (least of count turned : ℕ) → 1 ≤ least → least ≤ of → turned + count ≡ of
    → nat_le (of - least + 1) turned ≡ not (nat_le least count)
votes_turned least of count turned some enough all =
    elim (cases_lt count least) [
      | inl few ↦
          le-leb (of - least + 1) turned (omega (arith, some, enough, all, few))
          ∙ sym (ap not (lt-leb least count few))
      | inr many ↦
          lt-leb (of - least + 1) turned (omega (arith, some, enough, all, many))
          ∙ sym (ap not (le-leb least count many))
    ]

module _ (f : ℕ → Bool) where
  pub all_turned : (nodes : List ℕ) → list_all (λ n. not (f n)) nodes ≡ not (list_any f nodes)
  all_turned [] = refl
  all_turned (node ∷ nodes) =
      ap (λ q. not (f node) && q) (all_turned nodes) ∙ not_or (f node) (list_any f nodes)

  any_turned : (nodes : List ℕ) → list_any (λ n. not (f n)) nodes ≡ not (list_all f nodes)
  any_turned [] = refl
  any_turned (node ∷ nodes) =
      ap (λ q. not (f node) || q) (any_turned nodes) ∙ not_and (f node) (list_all f nodes)

  count_turned : (nodes : List ℕ) → true_count (λ n. not (f n)) nodes + true_count f nodes ≡ length nodes
  count_turned [] = refl
  count_turned (node ∷ nodes) =
      counted (f node) (true_count (λ n. not (f n)) nodes) (true_count f nodes) (count_turned nodes)

  gate_turned : (tree : FaultTree) (kind : GateKind) (inputs : List ℕ) → is_fdep_kind kind ≡ false
      → IsSoundKind tree kind inputs
      → gate_reads (dual_kind kind) (λ n. not (f n)) inputs ≡ not (gate_reads kind f inputs)
  gate_turned tree Or inputs read sound = all_turned inputs
  gate_turned tree (Votes least of) inputs read sound =
      votes_turned least of (true_count f inputs) (true_count (λ n. not (f n)) inputs) sound.some sound.enough
      (count_turned inputs ∙ sym sound.counted)
  gate_turned tree Por [] read sound = absurd (omega (arith, sound))
  gate_turned tree Por (input ∷ inputs) read sound = refl
  gate_turned tree Fdep inputs read sound = absurd cc
  gate_turned tree _ inputs read sound = any_turned inputs

-- ---- nodes

kind_read : (above fdep : Bool) → above ≡ true → (above && fdep) ≡ false → fdep ≡ false
kind_read true fdep is read = read
kind_read false fdep is read = absurd cc

unit_turned : (a b : Bool) → not (not a || b) ≡ (a && not b)
unit_turned true b = refl
unit_turned false b = refl

module _ {tree : FaultTree} (kept : IsTree tree) (units : ℕ → Bool) (node : ℕ) (is_node : IsNodeOf tree node) where
  -- the reading where all other units have failed
  abbrev lost : ℕ → Bool
  lost n = reads tree (λ unit. not (units unit)) n

  pub serves_gate : is_above_units tree node ≡ true → is_fdep tree node ≡ false
      → gate_reads (dual_kind (kind_of tree node)) (serves tree units) (inputs_of tree node) ≡ serves tree units node
  serves_gate above read =
      gate_turned lost tree (kind_of tree node) (inputs_of tree node)
      (kind_read (is_above_units tree node) (is_fdep_kind (kind_of tree node)) above read)
      (gate_sound kept node (ltb-true (unit_count tree) node above, is_node.1)).kind
      ∙ sym (ap not (reads-node tree kept (λ unit. not (units unit)) node is_node ∙ cond-true _ _ _ above))

  pub serves_unit : is_above_units tree node ≡ false
      → (units node && list_all (serves tree units) (triggers_of tree node)) ≡ serves tree units node
  serves_unit low =
      ap (λ q. units node && q) (all_turned lost (triggers_of tree node))
      ∙ sym (unit_turned (units node) (list_any lost (triggers_of tree node)))
      ∙ sym (ap not (reads-node tree kept (λ unit. not (units unit)) node is_node ∙ cond-false _ _ _ low))

-- a gate of a tree can turn its votes
pub can_turn : (tree : FaultTree) (kind : GateKind) (inputs : List ℕ) → IsSoundKind tree kind inputs → CanTurn kind
can_turn tree (Votes least of) inputs sound = (sound.some, sound.enough)
can_turn tree _ inputs sound = tt

-- and where there is room for all inputs, there is room for the votes of the dual kind
pub turned_votes : (tree : FaultTree) (kind : GateKind) (inputs : List ℕ) (places : ℕ) → IsSoundKind tree kind inputs
    → length inputs ≤ places → CanVote (dual_kind kind) places
turned_votes tree (Votes least of) inputs places sound room =
    let some = sound.some in
    let enough = sound.enough in
    let all = sound.counted in
    (omega (arith, some, enough), omega (arith, some, enough, all, room))
turned_votes tree _ inputs places sound room = tt
