-- Until when lists are needed, and that those that are needed are there.
use Rattle.std.specs.Prelude.{◌≡◌, ◌⊎◌, ℕ, ◌+◌, ◌-◌, ◌<◌, ◌≤◌, Bool, List, [], length, take, All, Contains}
use Rattle.std.specs.Prelude.{get_or}
use Rattle.std.proofs.Common.{refl, sym, ◌∙◌, ap, subst, inl, inr, arith, set}
use Rattle.std.proofs.lemmas.Bool.{cases_lt, cases_eq}
use Rattle.std.proofs.lemmas.List.{take_more, take_all, get_or-set_other, get_or-set_same, length-set}
use Rattle.std.proofs.lemmas.List.{get_or_default}
use Rattle.std.proofs.lemmas.List.Elements.{All-nil, All-get_or, All-more, All-weaker, All-contains}
use Rattle.std.proofs.lemmas.List.Elements.{All-set, All-take, Contains-push_cases}
use Rattle.fault_definitions.specs.{Tree.FaultTree, Tree.IsNodeOf, Trigger.below, WellFormed.IsTree, Reading.reads}
use Rattle.fault_model.specs.TreeTables.{IsFromBelow}
use Rattle.fault_definitions.proofs.ReadingLaws.{node_reads-agree, reads-node}
use Rattle.cutset_lists.specs.Sets.{IsSetOf, AreSetsOf}
use Rattle.cutset_lists.specs.Generation.{HasList, list_at, reading_of, is_unit_of, IsNodeList, Generates}
use Rattle.cutset_lists.specs.Plan.{until_of, HasEnd, Keeps, IsPlanFrom, IsPlan, Releases, IsBuiltTo}
use Rattle.unit_sets.specs.UnitList.{some_within}

-- ---- ends that rise

-- one end is at least a place, and the others stay
pub record Raises (node end : ℕ) (old new : List ℕ) : Type 0 where
  pub all : length new ≡ length old
  pub here : end ≤ until_of new node
  pub rises : (n : ℕ) → until_of old n ≤ until_of new n
  pub from_end : (n : ℕ) → end < until_of new n → until_of new n ≡ until_of old n

raised_at : (node end n : ℕ) (old : List ℕ) → HasEnd old node
    → (until_of (set old (node - 1) end) n ≡ end) × (n - 1 ≡ node - 1)
    ⊎ (until_of (set old (node - 1) end) n ≡ until_of old n)
raised_at node end n old has =
    elim (cases_eq (n - 1) (node - 1)) [
      | inl same ↦ inl (
        subst (λ (k : ℕ). get_or (set old (node - 1) end) k 0 ≡ end) (sym same)
            (get_or-set_same old (node - 1) end 0 (let p = has.0 in let q = has.1 in omega arith)),
        same,
      )
      | inr other ↦ inr (get_or-set_other old (node - 1) (n - 1) end 0 other)
    ]

pub Raises-set : (node end : ℕ) (old : List ℕ) → HasEnd old node → until_of old node < end
    → Raises node end old (set old (node - 1) end)
Raises-set node end old has low = record {
  all = length-set old (node - 1) end;
  here = let e = get_or-set_same old (node - 1) end 0 (let p = has.0 in let q = has.1 in omega arith) in omega arith;
  rises = λ n. elim (raised_at node end n old has) [
    | inl (e, same) ↦ let at : until_of old n ≡ until_of old node = ap (λ k. get_or old k 0) same in omega arith
    | inr e ↦ omega arith
  ];
  from_end = λ n high. elim (raised_at node end n old has) [
    | inl (e, same) ↦ absurd (omega arith)
    | inr e ↦ e
  ];
}

pub Raises-stays : (node end : ℕ) (old : List ℕ) → end ≤ until_of old node → Raises node end old old
Raises-stays node end old high = record { all = refl; here = high; rises = λ n. omega arith; from_end = λ _ _. refl }

pub Keeps-more : (nodes : List ℕ) (i : ℕ) {node end : ℕ} (old : List ℕ) {now new : List ℕ} → i < length nodes
    → node ≡ get_or nodes i 0
    → Keeps (take i nodes) end old now → Raises node end now new → Keeps (take (i + 1) nodes) end old new
Keeps-more nodes i {end} old {now} {new} short is keeps raises = record {
  all = raises.all ∙ keeps.all;
  reached = All-more (λ n. end ≤ until_of new n) nodes i 0 short
      (All-weaker (λ n. end ≤ until_of now n) (λ n. end ≤ until_of new n)
      (λ n h. let up = raises.rises n in omega arith) (take i nodes) keeps.reached)
      (subst (λ (n : ℕ). end ≤ until_of new n) is raises.here);
  rises = λ n. let first = keeps.rises n in let next = raises.rises n in omega arith;
  from_end = λ n high.
      let stays : until_of new n ≡ until_of now n = raises.from_end n high in
      stays ∙ keeps.from_end n (omega arith);
}

-- ---- the plan

module _ {tree : FaultTree} {order until : List ℕ} (place : ℕ) {above node : ℕ} (above_is : above ≡ place + 1)
    (short : place < length order) (is : node ≡ get_or order place 0) (plan : IsPlanFrom tree order until above) where
  pub IsPlanFrom-keeps : {new : List ℕ} → Keeps (below tree node) above until new → IsPlanFrom tree order new place
  IsPlanFrom-keeps {new} keeps = record {
    all = keeps.all ∙ plan.all;
    top = let up = keeps.rises tree.top in let t = plan.top in omega arith;
    served = λ q from within needed.
        elim (cases_lt place q) [
          | inl later ↦
              let stays : until_of new (get_or order q 0) ≡ until_of until (get_or order q 0) =
              keeps.from_end (get_or order q 0) (omega arith) in
              All-weaker (λ n. q < until_of until n) (λ n. q < until_of new n)
              (λ n h. let up = keeps.rises n in omega arith) (below tree (get_or order q 0))
              (plan.served q (omega arith) within (omega arith))
          | inr here ↦
              let same : q ≡ place = omega arith in
              let at : node ≡ get_or order q 0 = is ∙ ap (λ k. get_or order k 0) (sym same) in
              subst (λ (n : ℕ). All (λ m. q < until_of new m) (below tree n)) at
              (All-weaker (λ n. above ≤ until_of new n) (λ n. q < until_of new n) (λ n h. omega arith) (below tree node)
              keeps.reached)
        ];
  }

-- ---- lists that are given back

pub Releases-more : {until : List ℕ} {end : ℕ} (node : ℕ) {old now : List (List (List ℕ))} → 1 ≤ node
    → until_of until node ≤ end → Releases until end old now → Releases until end old (set now (node - 1) [])
Releases-more {until} node {now} some over releases = record {
  all = length-set now (node - 1) [] ∙ releases.all;
  others = λ n needed.
      get_or-set_other now (node - 1) (n - 1) [] []
      (λ same. let at : until_of until n ≡ until_of until node = ap (λ k. get_or until k 0) same in omega arith)
      ∙ releases.others n needed;
  sets =
      λ passes each. All-set (AreSetsOf passes) now (node - 1) [] (All-nil (IsSetOf passes))
      (releases.sets passes each);
}

-- ---- the lists on the way

module _ {tree : FaultTree} (kept : IsTree tree) {order until : List ℕ} (from_below : IsFromBelow tree order)
    (plan : IsPlan tree order until) {k node : ℕ} (short : k < length order) (is : node ≡ get_or order k 0)
    {lists : List (List (List ℕ))} (before : IsBuiltTo tree order until k lists) where
  is_node : IsNodeOf tree node
  is_node = subst (IsNodeOf tree) (sym is) (All-get_or (IsNodeOf tree) order k 0 short from_below.nodes)

  -- a node up to the place is before it, or the one there
  node_cases : (n : ℕ) → Contains (take (k + 1) order) n → Contains (take k order) n ⊎ (node ≡ n)
  node_cases n here =
      elim (Contains-push_cases (take k order) (get_or order k 0) n
      (subst (λ (l : List ℕ). Contains l n) (take_more order k 0 short) here)) [
        | inl earlier ↦ inl earlier
        | inr same ↦ inr (is ∙ same)
      ]

  pub IsBuiltTo-skips : until_of until node ≤ k → IsBuiltTo tree order until (k + 1) lists
  IsBuiltTo-skips low = record {
    all = before.all;
    built = λ n here needed within.
        elim (node_cases n here) [
          | inl earlier ↦ before.built n earlier (omega arith) within
          | inr same ↦ let at : until_of until node ≡ until_of until n =
              ap (until_of until) same in absurd (omega arith)
        ];
    sets = before.sets;
  }

  below_read : k < until_of until node → (within : ℕ → Bool)
      → All (λ m. reading_of lists within m ≡ reads tree within m) (below tree node)
  below_read needed within j d inside =
      let m : ℕ = get_or (below tree node) j d in
      let here : All (Contains (take k order)) (below tree node) =
      subst (λ (n : ℕ). All (Contains (take k order)) (below tree n)) (sym is) (from_below.after_below k short) in
      let served : All (λ n. k < until_of until n) (below tree node) =
      subst (λ (n : ℕ). All (λ m. k < until_of until m) (below tree n)) (sym is)
      (plan.served k (omega arith) short (subst (λ (n : ℕ). k < until_of until n) is needed)) in
      before.built m (here j d inside) (served j d inside) within

  made_reads : {made : List (List ℕ)} → k < until_of until node → IsNodeList tree lists node made → (within : ℕ → Bool)
      → some_within made within ≡ reads tree within node
  made_reads needed list within =
      list.some_within within
      ∙ node_reads-agree tree within (reading_of lists within) (reads tree within) node (below_read needed within)
      ∙ sym (reads-node tree kept within node is_node)

  pub IsBuiltTo-more : {made : List (List ℕ)} {new : List (List (List ℕ))} → k < until_of until node
      → IsNodeList tree lists node made → Releases until (k + 1) (set lists (node - 1) made) new
      → IsBuiltTo tree order until (k + 1) new
  IsBuiltTo-more {made} needed list releases = record {
    all = releases.all ∙ length-set lists (node - 1) made ∙ before.all;
    built = λ n here still within.
        ap (λ s. some_within s within) (releases.others n still)
        ∙ built_here n here still within;
    sets =
        releases.sets (is_unit_of tree) (All-set (AreSetsOf (is_unit_of tree)) lists (node - 1) made
        (list.sets before.sets) before.sets);
  }
    where
      built_here : (n : ℕ) → Contains (take (k + 1) order) n → k + 1 < until_of until n → (within : ℕ → Bool)
          → reading_of (set lists (node - 1) made) within n ≡ reads tree within n
      built_here n here still within =
          elim (cases_eq n node) [
            | inl same ↦
                subst (λ (m : ℕ). reading_of (set lists (node - 1) made) within m ≡ reads tree within m) (sym same)
                (ap (λ s. some_within s within) (get_or-set_same lists (node - 1) made []
                (let p = is_node.0 in let q = is_node.1 in let a = before.all in omega arith))
                ∙ made_reads needed list within)
            | inr other ↦
                elim (node_cases n here) [
                  | inl earlier ↦
                      let n_is : IsNodeOf tree n =
                      All-contains (IsNodeOf tree) (take k order) n
                      (All-take (IsNodeOf tree) k order from_below.nodes) earlier in
                      ap (λ s. some_within s within) (get_or-set_other lists (node - 1) (n - 1) made []
                      (λ same. other (let p = is_node.0 in let q = n_is.0 in omega arith)))
                      ∙ before.built n earlier (omega arith) within
                  | inr same ↦ absurd (other (sym same))
                ]
          ]

pub Generates-top : {tree : FaultTree} {order until : List ℕ} {place : ℕ} {lists : List (List (List ℕ))}
    {made : List (List ℕ)} → IsFromBelow tree order → IsPlan tree order until → IsNodeOf tree tree.top
    → length order ≤ place → place ≤ length order → made ≡ list_at lists tree.top
    → IsBuiltTo tree order until place lists → Generates tree tree.top made
Generates-top {tree} {order} {place} {lists} from_below plan top_is long low made_is built = record {
  some_within = λ within.
      ap (λ s. some_within s within) made_is
      ∙ built.built tree.top (subst (λ (l : List ℕ). Contains l tree.top) (sym (take_all place order long))
      (from_below.all tree.top top_is)) (let t = plan.top in omega arith) within;
  sets =
      subst (AreSetsOf (is_unit_of tree)) (sym made_is)
      (All-get_or (AreSetsOf (is_unit_of tree)) lists (tree.top - 1) []
      (let p = top_is.0 in let q = top_is.1 in let a = built.all in omega arith) built.sets);
}

-- ---- values as the code has them

read_end : (until : List ℕ) (node : ℕ) {place read : ℕ} → HasEnd until node → place ≡ node - 1
    → read ≡ get_or until place read → read ≡ until_of until node
read_end until node {place} {read} has at is =
    is ∙ get_or_default until place read 0 (let p = has.0 in let q = has.1 in omega arith)
    ∙ ap (λ k. get_or until k 0) at

module _ (nodes : List ℕ) (i : ℕ) {node place : ℕ} (end : ℕ) {read : ℕ} (old now new : List ℕ)
    (short : i < length nodes)
    (is : node ≡ get_or nodes i node) (all : All (HasEnd old) nodes) (at : place ≡ node - 1)
    (read_is : read ≡ get_or now place read) (before : Keeps (take i nodes) end old now) where
  has_old : HasEnd old node
  has_old = subst (HasEnd old) (sym is) (All-get_or (HasEnd old) nodes i node short all)

  has_now : HasEnd now node
  has_now = let e = before.all in (has_old.0, let q = has_old.1 in omega arith)

  value : read ≡ until_of now node
  value = read_end now node has_now at read_is

  pub Keeps-raised : read < end → new ≡ set now place end → Keeps (take (i + 1) nodes) end old new
  Keeps-raised low new_is =
      Keeps-more nodes i old short (is ∙ get_or_default nodes i node 0 short) before
      (subst (Raises node end now) (sym (new_is ∙ ap (λ k. set now k end) at))
      (Raises-set node end now has_now (let v = value in omega arith)))

  pub Keeps-stays : end ≤ read → new ≡ now → Keeps (take (i + 1) nodes) end old new
  Keeps-stays high new_is =
      Keeps-more nodes i old short (is ∙ get_or_default nodes i node 0 short) before
      (subst (Raises node end now) (sym new_is) (Raises-stays node end now (let v = value in omega arith)))

module _ {tree : FaultTree} {order until : List ℕ} {above : ℕ} (place : ℕ) {node : ℕ} (above_is : above ≡ place + 1)
    (within : above ≤ length order) (is : node ≡ get_or order place 0) (plan : IsPlanFrom tree order until above) where
  pub plan_keeps : {list new : List ℕ} {end : ℕ} → list ≡ below tree node → end ≡ above → Keeps list end until new
      → IsPlanFrom tree order new place
  plan_keeps {list} {new} list_is end_is keeps =
      IsPlanFrom-keeps place above_is (omega arith) is plan (subst (λ (l : List ℕ). Keeps l above until new) list_is
      (subst (λ (e : ℕ). Keeps list e until new) end_is keeps))

pub Releases-step : {until : List ℕ} (nodes : List ℕ) {end : ℕ} (i : ℕ) {node place : ℕ} {item : List (List ℕ)}
    {old now new : List (List (List ℕ))} → i < length nodes → node ≡ get_or nodes i node → All (HasList old) nodes
    → place ≡ node - 1 → get_or until place 0 ≤ end → item ≡ [] → new ≡ set now place item → Releases until end old now
    → Releases until end old new
Releases-step {until} nodes {end} i {node} {place} {old} {now} short is all at low none new_is releases =
    let has : HasList old node = subst (HasList old) (sym is) (All-get_or (HasList old) nodes i node short all) in
    subst (Releases until end old) (sym (new_is ∙ ap (λ x. set now place x) none ∙ ap (λ k. set now k []) at))
    (Releases-more node has.0 (subst (λ (k : ℕ). get_or until k 0 ≤ end) at low) releases)

pub IsBuiltTo-step : {tree : FaultTree} → IsTree tree → {order until : List ℕ} → IsFromBelow tree order
    → IsPlan tree order until → {k node : ℕ} → k < length order → node ≡ get_or order k 0
    → {lists : List (List (List ℕ))} → IsBuiltTo tree order until k lists
    → {made : List (List ℕ)} {seen changed new : List (List (List ℕ))} {until' : List ℕ} → k < until_of until node
    → seen ≡ lists → until' ≡ until → changed ≡ set lists (node - 1) made → IsNodeList tree seen node made
    → Releases until' (k + 1) changed new → IsBuiltTo tree order until (k + 1) new
IsBuiltTo-step {tree} kept {until} from_below plan {k} {node} short is before {made} {changed} {new} needed
    seen_is until_is changed_is list releases =
    IsBuiltTo-more kept from_below plan short is before needed
    (subst (λ (l : List (List (List ℕ))). IsNodeList tree l node made) seen_is list)
    (subst (λ (l : List (List (List ℕ))). Releases until (k + 1) l new) changed_is
    (subst (λ (u : List ℕ). Releases u (k + 1) changed new) until_is releases))

-- the end of a node of the order, as it is read
pub end_read : {tree : FaultTree} {order until : List ℕ} (k : ℕ) {node place read : ℕ} → IsFromBelow tree order
    → IsPlan tree order until → k < length order → node ≡ get_or order k 0 → place ≡ node - 1
    → read ≡ get_or until place read → read ≡ until_of until node
end_read {tree} {order} {until} k {node} from_below plan short is at read_is =
    let is_node : IsNodeOf tree node =
    subst (IsNodeOf tree) (sym is) (All-get_or (IsNodeOf tree) order k 0 short from_below.nodes) in
    read_end until node (is_node.0, let q = is_node.1 in let a = plan.all in omega arith) at read_is
