-- What a search for cycles in the graph of what nodes read says of a tree: no node lies on a cycle, so each has its
-- rank and stands after what it reads.
use Rattle.std.proofs.Common.{◌≡◌, ℕ, zero, suc, ◌-◌, ◌<◌, ◌≤◌, ◌↔◌, Bool, true, false, List, [], ◌∷◌, map, length}
use Rattle.std.proofs.Common.{◌+◌, ◌++◌, append_assoc, get_or}
use Rattle.std.proofs.Common.{take, All, Contains, IsTrue, refl, sym, ◌∙◌, ap, subst, inl, inr, arith}
use Rattle.std.specs.Prelude.{slice_index, slice_index_or, ◌==◌}
use Rattle.std.proofs.lemmas.Bool.{cases_Bool, cases_lt, or_cases, eqb-true}
use Rattle.std.proofs.lemmas.List.{get_or-map, get_or_past, length-map, map_more, take-map}
use Rattle.std.proofs.lemmas.List.Elements.{All-cons, All-contains, All-from_get_or, All-head, All-map, All-nil}
use Rattle.std.proofs.lemmas.List.Elements.{All-tail, All-weaker, Contains-append_right}
use Rattle.graph_cycles.specs.Graph.{IsGraph, Goes, IsReverseTopological, Leads, has, rank_over, successors}
use Rattle.graph_cycles.specs.Graph.Leads.{edge, way}
use Rattle.graph_cycles.proofs.RankBound.{rank_low}
use Rattle.fault_definitions.specs.Tree.{FaultTree, IsNodeOf, node_count, rank_of}
use Rattle.fault_definitions.specs.{Trigger.below, Rank.IsRanked, Rank.rank_over as tree_rank_over, WellFormed.IsTree}
use Rattle.fault_model.specs.Ranking.{AreRanks, places, with_ranks}
use Rattle.fault_model.specs.TreeTables.{HoldsLists, IsFromBelow}
use Rattle.fault_definitions.proofs.RankLaws.{below_are_nodes, below_ranks}

-- ---- places

-- the rows of some nodes behind others, with one more
pub row_more : (before below : List (List ℕ)) (i : ℕ) {list row : List ℕ} {old new : List (List ℕ)} → i < length below
    → list ≡ get_or below i list → row ≡ places list → old ≡ before ++ map places (take i below) → new ≡ old ++ row ∷ []
    → new ≡ before ++ map places (take (i + 1) below)
row_more before below i {list} {row} short is row_is old_is new_is =
    new_is ∙ ap (λ rows. rows ++ row ∷ []) old_is
    ∙ ap (λ r. (before ++ map places (take i below)) ++ r ∷ []) (row_is ∙ ap places is)
    ∙ append_assoc before (map places (take i below)) (places (get_or below i list) ∷ [])
    ∙ ap (λ rows. before ++ rows) (sym (map_more places below i list short))

-- numbers made of those of a list, with one more
pub map_step : (f : ℕ → ℕ) (xs : List ℕ) (i : ℕ) {x y : ℕ} {old new : List ℕ} → i < length xs → x ≡ get_or xs i x
    → y ≡ f x
    → old ≡ map f (take i xs) → new ≡ old ++ y ∷ [] → new ≡ map f (take (i + 1) xs)
map_step f xs i {x} {y} short is y_is old_is new_is =
    new_is ∙ ap (λ ys. ys ++ y ∷ []) old_is ∙ ap (λ v. map f (take i xs) ++ v ∷ []) (y_is ∙ ap f is)
    ∙ sym (map_more f xs i x short)

-- what the places of some nodes have is the place of one of them
places_has : (nodes : List ℕ) (place : ℕ) → All (λ node. 1 ≤ node) nodes → IsTrue (has (places nodes) place)
    → Contains nodes (suc place)
places_has [] place some found = absurd (let never : false ≡ true = found in cc)
places_has (node ∷ nodes) place some found =
    elim (or_cases (node - 1 == place) (has (places nodes) place) found) [
      | inl here ↦
          let same : node - 1 ≡ place = eqb-true (node - 1) place here in
          let one : 1 ≤ node = All-head (λ n. 1 ≤ n) node nodes some in
          (0, omega arith, omega arith)
      | inr later ↦
          Contains-append_right (node ∷ []) nodes (suc place)
          (places_has nodes place (All-tail (λ n. 1 ≤ n) node nodes some) later)
    ]

map_contains : (order : List ℕ) (place : ℕ) → Contains order place → Contains (map suc order) (suc place)
map_contains order place (k, l, is) =
    (k, omega (arith, length-map order suc), get_or-map suc order k place (suc place) l ∙ ap suc is)

-- where places stand among others, their nodes do
all_at_places : (nodes front : List ℕ) → All (λ node. 1 ≤ node) nodes → All (Contains front) (places nodes)
    → All (Contains (map suc front)) nodes
all_at_places [] front some all = All-nil _
all_at_places (node ∷ nodes) front some all =
    let one : 1 ≤ node = All-head (λ n. 1 ≤ n) node nodes some in
    let next : suc (node - 1) ≡ node = omega arith in
    All-cons (Contains (map suc front)) node nodes
    (subst (Contains (map suc front)) next
    (map_contains front (node - 1) (All-head (Contains front) (node - 1) (places nodes) all)))
    (all_at_places nodes front (All-tail (λ n. 1 ≤ n) node nodes some)
    (All-tail (Contains front) (node - 1) (places nodes) all))

-- a rank over places is that over their nodes
rank_over-places : (tree : FaultTree) (ranks nodes : List ℕ) → All (λ node. 1 ≤ node) nodes
    → rank_over ranks (places nodes) ≡ tree_rank_over (with_ranks tree ranks) nodes
rank_over-places tree ranks [] some = refl
rank_over-places tree ranks (zero ∷ nodes) some = absurd (omega (arith, All-head (λ n. 1 ≤ n) 0 nodes some))
rank_over-places tree ranks (suc place ∷ nodes) some =
    let at : suc place - 1 ≡ place = omega arith in
    let first : slice_index ranks (suc place - 1) ≡ slice_index ranks place = ap (slice_index ranks) at in
    let rest : rank_over ranks (places nodes) ≡ tree_rank_over (with_ranks tree ranks) nodes =
    rank_over-places tree ranks nodes (All-tail (λ n. 1 ≤ n) (suc place) nodes some) in
    omega arith

-- ---- the graph of a tree

module _ {tree : FaultTree} (kept : IsTree tree) {lists : List (List ℕ)} (holds : HoldsLists tree lists) where
  positive : (x : ℕ) → All (λ node. 1 ≤ node) (below tree (suc x))
  positive x =
      All-weaker (IsNodeOf tree) (λ node. 1 ≤ node) (λ node is_node. is_node.0) (below tree (suc x))
      (below_are_nodes kept (suc x))

  list_at : (x : ℕ) → x < length lists → slice_index_or lists x [] ≡ below tree (suc x)
  list_at x l =
      let place : x ≡ suc x - 1 = omega arith in
      ap (λ k. slice_index_or lists k []) place ∙ holds.each (suc x) (omega arith, omega (arith, holds.all))

  pub lists_positive : All (All (λ node. 1 ≤ node)) lists
  lists_positive =
      All-from_get_or (All (λ node. 1 ≤ node)) lists []
      (λ i l. subst (All (λ node. 1 ≤ node)) (sym (list_at i l)) (positive i))

module _ {tree : FaultTree} (kept : IsTree tree) {lists : List (List ℕ)} (holds : HoldsLists tree lists)
    {graph : List (List ℕ)} (is : graph ≡ map places lists) where
  graph_all : length graph ≡ node_count tree
  graph_all = ap length is ∙ (length-map lists places ∙ holds.all)

  is_node : (x : ℕ) → x < length graph → IsNodeOf tree (suc x)
  is_node x l = (omega arith, omega (arith, graph_all))

  above_zero : (x : ℕ) → All (λ node. 1 ≤ node) (below tree (suc x))
  above_zero = positive kept holds

  row_at : (x : ℕ) → x < length graph → successors graph x ≡ places (below tree (suc x))
  row_at x l =
      let within : x < length lists = omega (arith, graph_all, holds.all) in
      ap (λ g. slice_index_or g x []) is
      ∙ (get_or-map places lists x [] [] within ∙ ap places (list_at kept holds x within))

  goes_within : (x y : ℕ) → Goes graph x y → x < length graph
  goes_within x y goes = elim (cases_lt x (length graph)) [
    | inl l ↦ l
    | inr past ↦
        let none : successors graph x ≡ [] = get_or_past graph x [] (omega arith) in
        let never : false ≡ true = subst (λ row. IsTrue (has row y)) none goes in
        absurd cc
  ]

  goes_below : (x y : ℕ) → Goes graph x y → Contains (below tree (suc x)) (suc y)
  goes_below x y goes =
      places_has (below tree (suc x)) y (above_zero x)
      (subst (λ row. IsTrue (has row y)) (row_at x (goes_within x y goes)) goes)

  pub tree_is_graph : IsGraph graph
  tree_is_graph x y goes =
      let node : IsNodeOf tree (suc y) =
      All-contains (IsNodeOf tree) (below tree (suc x)) (suc y) (below_are_nodes kept (suc x)) (goes_below x y goes) in
      omega (arith, node.1, graph_all)

  falls : (x y : ℕ) → Goes graph x y → rank_of tree (suc y) < rank_of tree (suc x)
  falls x y goes =
      All-contains (λ n. rank_of tree n < rank_of tree (suc x)) (below tree (suc x)) (suc y)
      (below_ranks kept (suc x) (is_node x (goes_within x y goes))) (goes_below x y goes)

  leads_down : {x y : ℕ} → Leads graph x y → rank_of tree (suc y) < rank_of tree (suc x)
  leads_down {x} {y} (edge e) = falls x y e
  leads_down {x} (way {y = y} e more) = omega (arith, falls x y e, leads_down more)

  no_cycle : (x : ℕ) → ¬ Leads graph x x
  no_cycle x round = absurd (omega (arith, leads_down round))

  -- ---- what the search finds

  module _ (marks : List Bool) (ranks : List ℕ) {order : List ℕ} (ranks_all : length ranks ≡ length graph)
      (exact : (x : ℕ) → x < length graph → IsTrue (slice_index_or marks x false) ↔ Leads graph x x)
      (ranked : (x : ℕ) → x < length graph → slice_index_or marks x false ≡ false
      → slice_index ranks x ≡ rank_over ranks (successors graph x))
      (sorted : IsReverseTopological graph order) where
    rank_at : (x : ℕ) → x < length graph → slice_index ranks x ≡ rank_over ranks (successors graph x)
    rank_at x l = ranked x l (elim (cases_Bool (slice_index_or marks x false)) [
      | inl marked ↦ absurd (no_cycle x ((exact x l).0 marked))
      | inr unmarked ↦ unmarked
    ])

    pub ranks_low : (limit : ℕ) → node_count tree ≤ limit → All (λ rank. rank < limit) ranks
    ranks_low limit few =
        All-from_get_or (λ rank. rank < limit) ranks 0
        (λ i l. omega (arith, rank_low graph ranks tree_is_graph rank_at i (omega (arith, ranks_all)), graph_all))

    pub order_low : (limit : ℕ) → node_count tree ≤ limit → All (λ place. place < limit) order
    order_low limit few =
        All-weaker (λ x. x < length graph) (λ x. x < limit) (λ x l. omega (arith, graph_all)) order sorted.nodes

    by_rule : IsRanked (with_ranks tree ranks)
    by_rule zero node = absurd (omega (arith, node.0))
    by_rule (suc x) node =
        let l : x < length graph = omega (arith, node.1, graph_all) in
        rank_at x l
        ∙ (ap (rank_over ranks) (row_at x l) ∙ rank_over-places tree ranks (below tree (suc x)) (above_zero x))

    pub are_ranks : AreRanks tree ranks
    are_ranks = record { all = ranks_all ∙ graph_all; ranked = by_rule }

    after_below : (k : ℕ) → k < length order
        → All (Contains (take k (map suc order))) (below tree (slice_index (map suc order) k))
    after_below k l =
        let at : slice_index (map suc order) k ≡ suc (slice_index order k) = get_or-map suc order k 0 0 l in
        let within : slice_index order k < length graph = sorted.nodes k 0 l in
        subst (λ front. All (Contains front) (below tree (slice_index (map suc order) k))) (sym (take-map suc k order))
        (subst (λ node. All (Contains (map suc (take k order))) (below tree node)) (sym at)
        (all_at_places (below tree (suc (slice_index order k))) (take k order) (above_zero (slice_index order k))
        (subst (All (Contains (take k order))) (row_at (slice_index order k) within)
        (sorted.after_successors k l (no_cycle (slice_index order k))))))

    pub from_below : IsFromBelow tree (map suc order)
    from_below = record {
      nodes = All-map (IsNodeOf tree) suc order
          (All-weaker (λ x. x < length graph) (λ x. IsNodeOf tree (suc x)) is_node order sorted.nodes);
      all = λ node is_node. all_nodes node is_node;
      after_below = λ k l. after_below k (omega (arith, length-map order suc));
    }
      where
        all_nodes : (node : ℕ) → IsNodeOf tree node → Contains (map suc order) node
        all_nodes zero node = absurd (omega (arith, node.0))
        all_nodes (suc x) node = map_contains order x (sorted.all x (omega (arith, node.1, graph_all)))
