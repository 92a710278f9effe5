-- The pass of the static evaluation: what has been read from below is the static reading.
use Rattle.std.proofs.Common.{◌≡◌, ℕ, suc, ◌+◌, ◌<◌, ◌≤◌, Bool, false, List, length, take, set, get_or, All, Contains}
use Rattle.std.proofs.Common.{sym, ◌∙◌, ap, subst, inl, inr, arith, get_or-set_same, get_or-set_other}
use Rattle.std.proofs.{lemmas.Bool.cases_eq, lemmas.Bool.cases_lt, lemmas.List.Elements.All-weaker}
use Rattle.std.proofs.lemmas.List.{get_or-take, get_or_default, length-take}
use Rattle.unit_sets.specs.UnitList.{among}
use Rattle.fault_definitions.specs.Tree.{FaultTree, IsNodeOf, node_count}
use Rattle.fault_definitions.specs.{Trigger.below, Reading.node_reads, Reading.reads, WellFormed.IsTree}
use Rattle.fault_definitions.proofs.ReadingLaws.{node_reads-agree, reads-node}
use Rattle.fault_model.specs.{Scratch.value_in, TreeTables.IsFromBelow}

-- the table has the readings of the first nodes of the order
abbrev pub HasRead : FaultTree → List ℕ → List ℕ → List Bool → ℕ → Type 0
HasRead tree units order values count =
    (k : ℕ) → k < count → value_in values (get_or order k 0) ≡ reads tree (among units) (get_or order k 0)

module _ {tree : FaultTree} (kept : IsTree tree) (units : List ℕ) {order : List ℕ} (from : IsFromBelow tree order)
    (values : List Bool) where
  in_front : (count : ℕ) → HasRead tree units order values count → (node : ℕ) → Contains (take count order) node
      → value_in values node ≡ reads tree (among units) node
  in_front count done node (k, short, is) =
      let front : (k < count) × (k < length order) =
      (let size = length-take count order in omega arith, let size = length-take count order in omega arith) in
      let at : get_or order k 0 ≡ node =
      get_or_default order k 0 node front.1 ∙ sym (get_or-take count order k node front.0) ∙ is in
      subst (λ n. value_in values n ≡ reads tree (among units) n) at (done k front.0)

  -- the value of the next node is its reading
  pub next_reads : (count : ℕ) {node : ℕ} → count < length order → node ≡ get_or order count node
      → HasRead tree units order values count → node_reads tree (among units) (value_in values) node
      ≡ reads tree (among units) node
  next_reads count {node} short is done =
      let at : get_or order count 0 ≡ node = get_or_default order count 0 node short ∙ sym is in
      let is_node : IsNodeOf tree node = subst (IsNodeOf tree) (sym is) (from.nodes count node short) in
      let front : All (Contains (take count order)) (below tree node) =
      subst (λ n. All (Contains (take count order)) (below tree n)) at (from.after_below count short) in
      node_reads-agree tree (among units) (value_in values) (reads tree (among units)) node
      (All-weaker (Contains (take count order)) (λ n. value_in values n ≡ reads tree (among units) n)
      (in_front count done) (below tree node) front)
      ∙ sym (reads-node tree kept (among units) node is_node)

  pub read_more : (count : ℕ) {node : ℕ} {value : Bool} → length values ≡ suc (node_count tree) → count < length order
      → node ≡ get_or order count node → value ≡ node_reads tree (among units) (value_in values) node
      → HasRead tree units order values count → HasRead tree units order (set values node value) (count + 1)
  read_more count {node} {value} room short is evaluated done k within =
      let at : get_or order count 0 ≡ node = get_or_default order count 0 node short ∙ sym is in
      let is_node : IsNodeOf tree node = subst (IsNodeOf tree) (sym is) (from.nodes count node short) in
      let reach : node < length values = omega (arith, is_node.1) in
      let here : value ≡ reads tree (among units) node = evaluated ∙ next_reads count short is done in
      elim (cases_eq (get_or order k 0) node) [
        | inl same ↦ subst (λ n. value_in (set values node value) n ≡ reads tree (among units) n) (sym same)
            (get_or-set_same values node value false reach ∙ here)
        | inr apart ↦
            get_or-set_other values node (get_or order k 0) value false apart
            ∙ done k (elim (cases_lt k count) [
              | inl earlier ↦ earlier
              | inr last ↦ let e : k ≡ count = omega arith in absurd (apart (ap (λ i. get_or order i 0) e ∙ at))
            ])
      ]

  pub read_all : (count node : ℕ) → length order ≤ count → IsNodeOf tree node → HasRead tree units order values count
      → value_in values node ≡ reads tree (among units) node
  read_all count node full is_node done =
      let there : Contains order node = from.all node is_node in
      let at : get_or order there.0 0 ≡ node = get_or_default order there.0 0 node there.1 ∙ there.2 in
      subst (λ n. value_in values n ≡ reads tree (among units) n) at (done there.0 (let short = there.1 in omega arith))
