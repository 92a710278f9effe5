-- Path families that are made one after another, each after those of what its node reads.
use Rattle.std.proofs.Common.{◌≡◌, ◌≢◌, ℕ, ◌+◌, ◌-◌, ◌<◌, ◌≤◌, List, ◌++◌, All, Contains, length, take, drop, set}
use Rattle.std.proofs.Common.{false, get_or, sym, ◌∙◌, ap, subst, inl, inr, arith, get_or-set_same, get_or-set_other}
use Rattle.std.proofs.lemmas.Bool.{cases_eq, cases_lt}
use Rattle.std.proofs.lemmas.List.{get_or-take, get_or_append_left, get_or_default, length-take}
use Rattle.fault_definitions.specs.{Trigger.below, WellFormed.IsTree}
use Rattle.fault_definitions.specs.Tree.{FaultTree, IsNodeOf, is_fdep}
use Rattle.fault_model.specs.TreeTables.{IsFromBelow}
use Rattle.zdd_families.specs.Map.{Grown}
use Rattle.zdd_shared_table.specs.Seats.{Seated, IsSoundSeat, map_of}
use Rattle.zdd_product.specs.Seats.{KnowsOne}
use Rattle.zdd_product.proofs.After.{stays}
use Rattle.zdd_nodes.specs.Reading.{reference_of}
use Rattle.path_sets.specs.Building.{HasAllPaths, HasMade, HasPaths, HasPathsBelow}
use Rattle.path_sets.specs.Paths.{IsPathFamily}
use Rattle.path_sets.proofs.ReadNodes.{below_are_read}

-- the references of the first nodes of an order that are no `fdep` are known as their path families
abbrev pub HasPathsTo : (ℕ → ℕ) → FaultTree → List ℕ → List ℕ → ℕ → Type 0
HasPathsTo known tree references order count = (k : ℕ) → k < count → is_fdep tree (get_or order k 0) ≡ false
    → HasPaths known tree references (get_or order k 0)

-- what is known of a node stays known
pub paths_stay : (before after : Seated) → IsSoundSeat before → IsSoundSeat after
    → Grown (map_of before) (map_of after) → {tree : FaultTree} (references : List ℕ) (node : ℕ)
    → HasPaths (map_of before) tree references node → HasPaths (map_of after) tree references node
paths_stay before after sound sound' keeps {tree} references node has =
    let r : ℕ = reference_of references node in
    let at = stays before after r sound sound' keeps has.0 in
    (at.0, subst (IsPathFamily tree node) (sym at.1) has.1)

module _ {tree : FaultTree} (kept : IsTree tree) {order : List ℕ} (from : IsFromBelow tree order) (known : ℕ → ℕ)
    (references : List ℕ) where
  -- what the next node of the order reads is known
  pub below_known : (count : ℕ) {node : ℕ} → count < length order → node ≡ get_or order count node
      → HasPathsTo known tree references order count → HasPathsBelow known tree references node
  below_known count {node} short is done k d within =
      let is_node : IsNodeOf tree node = subst (IsNodeOf tree) (sym is) (from.nodes count node short) in
      let at : get_or order count 0 ≡ node = get_or_default order count 0 node short ∙ sym is in
      let front : Contains (take count order) (get_or (below tree node) k d) =
      subst (λ n. All (Contains (take count order)) (below tree n)) at (from.after_below count short) k d within in
      let place : ℕ = front.0 in
      let inside : (place < count) × (place < length order) = (
        let s = front.1 in let size = length-take count order in omega (arith, s, size),
        let s = front.1 in let size = length-take count order in omega (arith, s, size),
      ) in
      let same : get_or order place 0 ≡ get_or (below tree node) k d =
      get_or_default order place 0 (get_or (below tree node) k d) inside.1
      ∙ sym (get_or-take count order place (get_or (below tree node) k d) inside.0) ∙ front.2 in
      subst (HasPaths known tree references) same
      (done place inside.0 (ap (is_fdep tree) same ∙ below_are_read kept node is_node k d within))

  -- once all of the order are, each node of the tree is
  pub all_known : HasPathsTo known tree references order (length order) → HasAllPaths known tree references
  all_known done node is_node read =
      let has = from.all node is_node in
      let same : get_or order has.0 0 ≡ node = get_or_default order has.0 0 node has.1 ∙ has.2 in
      subst (HasPaths known tree references) same (done has.0 has.1 (ap (is_fdep tree) same ∙ read))

-- one node more is made
pub made_more : {tree : FaultTree} {order : List ℕ} → IsFromBelow tree order → {before after : Seated}
    {old new : List ℕ} → IsSoundSeat before → (count : ℕ) {node : ℕ} → count < length order
    → node ≡ get_or order count node
    → HasMade tree node before after old new → HasPathsTo (map_of before) tree old order count
    → HasPathsTo (map_of after) tree new order (count + 1)
made_more {tree} {order} from {before} {after} {old} {new} sound count {node} short is made done k within read =
    let at : get_or order count 0 ≡ node = get_or_default order count 0 node short ∙ sym is in
    let n : ℕ = get_or order k 0 in
    elim (cases_eq n node) [
      | inl same ↦
          subst (HasPaths (map_of after) tree new) (sym same) (made.made (ap (is_fdep tree) (sym same) ∙ read))
      | inr apart ↦
          let earlier : k < count =
          elim (cases_lt k count) [
            | inl earlier ↦ earlier
            | inr last ↦
                let e : k ≡ count = omega (arith, within, last) in absurd (apart (ap (λ i. get_or order i 0) e ∙ at))
          ] in
          let is_node : IsNodeOf tree n = from.nodes k 0 (omega (arith, earlier, short)) in
          let stayed : HasPaths (map_of after) tree old n =
          paths_stay before after sound made.on.went.sound made.on.went.keeps old n (done k earlier read) in
          subst (λ r. KnowsOne (map_of after) r (IsPathFamily tree n)) (sym (made.others n is_node.0 apart)) stayed
    ]

-- ---- a reference is put to those of the other nodes

module _ (references : List ℕ) (node r : ℕ) (low : 1 ≤ node) (high : node ≤ length references) where
  pub put_own : reference_of (set references (node - 1) r) node ≡ r
  put_own = get_or-set_same references (node - 1) r 0 (omega (arith, low, high))

  pub put_others : (other : ℕ) → 1 ≤ other → other ≢ node
      → reference_of (set references (node - 1) r) other ≡ reference_of references other
  put_others other some apart =
      get_or-set_other references (node - 1) (other - 1) r 0
      (λ same. apart (let e : other ≡ node = omega (arith, same, low, some) in e))

-- a place of a list that was written over from its front
pub read_back : (new old : List ℕ) (size place d : ℕ) → place < size → place < length new
    → get_or (take size (new ++ drop (length new) old)) place d ≡ get_or new place 0
read_back new old size place d short inside =
    get_or-take size (new ++ drop (length new) old) place d short
    ∙ get_or_append_left new (drop (length new) old) d place inside ∙ get_or_default new place d 0 inside
