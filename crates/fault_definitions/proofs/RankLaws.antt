-- What follows from the ranks: what a node reads are nodes of lower rank, and a rule reaches all the way down.
use Rattle.std.specs.Prelude.{◌≡◌, ℕ, zero, suc, ◌-◌, ◌<◌, true, List, [], ◌∷◌, Option, Some, None, IfSome, length, All}
use Rattle.std.specs.Prelude.{filter_map, get_or}
use Rattle.std.specs.List.{cons_option}
use Rattle.std.proofs.Common.{ap, sym, ◌∙◌, subst, inl, inr, arith}
use Rattle.std.proofs.lemmas.Bool.{cond_both, cases_lt, ltb-true}
use Rattle.std.proofs.lemmas.List.{get_or_default, get_or_past}
use Rattle.std.proofs.lemmas.List.Elements.{All-nil, All-cons, All-head, All-tail, All-get_or, All-weaker}
use Rattle.std.proofs.lemmas.Slice.Zip.{length-zip, get_or-zip}
use Rattle.unit_sets.specs.UnitList.{among}
use Rattle.fault_words.specs.declared.kind.GateKind.{GateKind}
use Rattle.fault_words.specs.declared.kind.GateKind.TheVariants.{And, Or, Votes, Pand, Por, Seq, Fdep, Csp, Wsp, Hsp}
use Rattle.fault_definitions.specs.Tree.{FaultTree, IsNodeOf, IsGateOf, gates, kind_of, inputs_of, is_above_units}
use Rattle.fault_definitions.specs.Tree.{rank_of}
use Rattle.fault_definitions.specs.Tree.{unit_count, gate_count}
use Rattle.fault_definitions.specs.Trigger.{below, trigger_by, triggers_of}
use Rattle.fault_definitions.specs.Rank.{rank_over, within, by_rank}
use Rattle.fault_definitions.specs.WellFormed.{IsTree, IsSoundGate}

-- ---- what a node reads are nodes

module _ {tree : FaultTree} (kept : IsTree tree) where
  -- the gate of a number is one of the gates, and sound
  pub gate_sound : (gate : ℕ) → IsGateOf tree gate → IsSoundGate tree (kind_of tree gate, inputs_of tree gate)
  gate_sound gate (above, within_nodes) =
      let at : ℕ = gate - unit_count tree - 1 in
      let all : length tree.inputs ≡ gate_count tree = kept.inputs_all in
      let kinds_reach : at < length tree.kinds = omega arith in
      let inputs_reach : at < length tree.inputs = omega arith in
      let reach : at < length (gates tree) = omega (arith, length-zip tree.kinds tree.inputs) in
      let P : GateKind × List ℕ → Type 0 = IsSoundGate tree in
      subst P (get_or-zip tree.kinds tree.inputs at (Fdep, []) kinds_reach inputs_reach)
      (All-get_or P (gates tree) at (Fdep, []) reach kept.gates_sound)

  pub inputs_are_nodes : (gate : ℕ) → is_above_units tree gate ≡ true → All (IsNodeOf tree) (inputs_of tree gate)
  inputs_are_nodes gate above =
      let at : ℕ = gate - unit_count tree - 1 in
      let higher : unit_count tree < gate = ltb-true (unit_count tree) gate above in
      let all : length tree.inputs ≡ gate_count tree = kept.inputs_all in
      elim (cases_lt at (length tree.inputs)) [
        | inl reach ↦ (gate_sound gate (higher, omega arith)).nodes
        | inr past ↦ subst (All (IsNodeOf tree)) (sym (get_or_past tree.inputs at [] past)) (All-nil (IsNodeOf tree))
      ]

  trigger_is_node : (unit : ℕ) (gate : GateKind × List ℕ) → All (IsNodeOf tree) gate.1
      → IfSome (trigger_by unit gate) (IsNodeOf tree)
  trigger_is_node unit (Fdep, []) nodes = tt
  trigger_is_node unit (Fdep, trigger ∷ dependents) nodes =
      cond_both (among dependents unit) (Some trigger) None (λ found. IfSome found (IsNodeOf tree))
      (λ _. All-head (IsNodeOf tree) trigger dependents nodes) (λ _. tt)
  trigger_is_node unit (And, inputs) nodes = tt
  trigger_is_node unit (Or, inputs) nodes = tt
  trigger_is_node unit (Votes least of, inputs) nodes = tt
  trigger_is_node unit (Pand, inputs) nodes = tt
  trigger_is_node unit (Por, inputs) nodes = tt
  trigger_is_node unit (Seq, inputs) nodes = tt
  trigger_is_node unit (Csp, inputs) nodes = tt
  trigger_is_node unit (Wsp, inputs) nodes = tt
  trigger_is_node unit (Hsp, inputs) nodes = tt

  with_trigger : (found : Option ℕ) (others : List ℕ) → IfSome found (IsNodeOf tree) → All (IsNodeOf tree) others
      → All (IsNodeOf tree) (cons_option found others)
  with_trigger None others node nodes = nodes
  with_trigger (Some trigger) others node nodes = All-cons (IsNodeOf tree) trigger others node nodes

  triggers_among : (unit : ℕ) (some_gates : List (GateKind × List ℕ)) → All (IsSoundGate tree) some_gates
      → All (IsNodeOf tree) (filter_map (trigger_by unit) some_gates)
  triggers_among unit [] sound = All-nil (IsNodeOf tree)
  triggers_among unit (gate ∷ others) sound =
      with_trigger (trigger_by unit gate) (filter_map (trigger_by unit) others)
      (trigger_is_node unit gate (All-head (IsSoundGate tree) gate others sound).nodes)
      (triggers_among unit others (All-tail (IsSoundGate tree) gate others sound))

  pub triggers_are_nodes : (unit : ℕ) → All (IsNodeOf tree) (triggers_of tree unit)
  triggers_are_nodes unit = triggers_among unit (gates tree) kept.gates_sound

  pub below_are_nodes : (node : ℕ) → All (IsNodeOf tree) (below tree node)
  below_are_nodes node =
      cond_both (is_above_units tree node) (inputs_of tree node) (triggers_of tree node) (All (IsNodeOf tree))
      (inputs_are_nodes node) (λ _. triggers_are_nodes node)

-- ---- ranks fall

pub rank_over-all : (tree : FaultTree) (nodes : List ℕ) → All (λ node. rank_of tree node < rank_over tree nodes) nodes
rank_over-all tree [] = All-nil _
rank_over-all tree (node ∷ nodes) =
    All-cons (λ n. rank_of tree n < rank_over tree (node ∷ nodes)) node nodes (omega arith)
    (All-weaker (λ n. rank_of tree n < rank_over tree nodes) (λ n. rank_of tree n < rank_over tree (node ∷ nodes))
    (λ n h. omega arith) nodes (rank_over-all tree nodes))

-- what a node reads has a lower rank
pub below_ranks : {tree : FaultTree} → IsTree tree → (node : ℕ) → IsNodeOf tree node
    → All (λ n. rank_of tree n < rank_of tree node) (below tree node)
below_ranks {tree} kept node is_node =
    subst (λ rank. All (λ n. rank_of tree n < rank) (below tree node)) (sym (kept.ranked node is_node))
    (rank_over-all tree (below tree node))

-- what stands at the place of a node, among the ranks, is by the rule
pub read_rank_rule : {tree : FaultTree} {ranks : List ℕ} (node : ℕ) {place rank : ℕ} → IsTree tree → IsNodeOf tree node
    → ranks ≡ tree.ranks → place ≡ node - 1 → rank ≡ get_or ranks place rank
    → rank ≡ rank_over tree (below tree node)
read_rank_rule zero kept is_node same at is = absurd (omega (arith, is_node.0))
read_rank_rule {tree} {ranks} (suc k) {place} {rank} kept is_node same at is =
    let here : place ≡ k = omega arith in
    let within : place < length ranks = omega (arith, is_node.1, kept.ranks_all, ap length same) in
    is ∙ get_or_default ranks place rank 0 within ∙ ap (λ l. get_or l place 0) same
    ∙ ap (λ i. get_or tree.ranks i 0) here ∙ kept.ranked (suc k) is_node

-- ---- rules by rank

-- values that agree on what a node reads give the node one value
abbrev pub AgreesBelow : {V : Type 0} → FaultTree → ((ℕ → V) → ℕ → V) → Type 0
AgreesBelow {V} tree rule =
    (f g : ℕ → V) (node : ℕ) → All (λ n. f n ≡ g n) (below tree node) → rule f node ≡ rule g node

module _ {V : Type 0} {tree : FaultTree} (kept : IsTree tree) (lowest : V) (rule : (ℕ → V) → ℕ → V)
    (agrees : AgreesBelow tree rule) where
  -- any depth beyond the rank gives the same value
  within-deep : (depth other node : ℕ) → IsNodeOf tree node → rank_of tree node < depth → rank_of tree node < other
      → within lowest rule depth node ≡ within lowest rule other node
  within-deep zero other node is_node deep deep' = absurd (omega arith)
  within-deep (suc depth) zero node is_node deep deep' = absurd (omega arith)
  within-deep (suc depth) (suc other) node is_node deep deep' =
      agrees (within lowest rule depth) (within lowest rule other) node
      (λ k d short. within-deep depth other (get_or (below tree node) k d) (below_are_nodes kept node k d short)
      (let lower = below_ranks kept node is_node k d short in omega arith)
      (let lower = below_ranks kept node is_node k d short in omega arith))

  -- the value of a node is by its rule from the values of what it reads
  pub by_rank-node : (node : ℕ) → IsNodeOf tree node
      → by_rank tree lowest rule node ≡ rule (by_rank tree lowest rule) node
  unfolding by_rank
  by_rank-node node is_node =
      agrees (within lowest rule (rank_of tree node)) (λ n. within lowest rule (suc (rank_of tree n)) n) node
      (λ k d short.
      let n : ℕ = get_or (below tree node) k d in
      within-deep (rank_of tree node) (suc (rank_of tree n)) n (below_are_nodes kept node k d short)
      (below_ranks kept node is_node k d short) (omega arith))
