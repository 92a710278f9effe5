-- Where every node has a rank, each rank is below the number of nodes.
use Rattle.std.specs.Prelude.{◌≡◌, ℕ, zero, suc, ◌<◌, ◌≤◌, ◌==◌, nat_lt, Bool, List, [], ◌∷◌, length, IsTrue}
use Rattle.std.specs.Prelude.{slice_index}
use Rattle.std.proofs.Common.{refl, inl, inr, arith}
use Rattle.std.proofs.lemmas.Bool.{cases_lt, or_left, or_right, eq-eqb, ltb-true, lt-ltb, le-ltb}
use Rattle.graph_cycles.specs.Graph.{successors, has, IsGraph, rank_over}
use Rattle.graph_cycles.proofs.Surveys.{count_below, count_below-within, count_below-less}

module _ (graph : List (List ℕ)) (ranks : List ℕ) (is_graph : IsGraph graph)
    (ranked : (x : ℕ) → x < length graph → slice_index ranks x ≡ rank_over ranks (successors graph x)) where
  -- a rank over some nodes that is not 0 is one more than that of one of them
  highest : (nodes : List ℕ) → 0 < rank_over ranks nodes
      → (y : ℕ) × IsTrue (has nodes y) × (suc (slice_index ranks y) ≡ rank_over ranks nodes)
  highest [] some = absurd (omega arith)
  highest (node ∷ nodes) some = elim (cases_lt (slice_index ranks node) (rank_over ranks nodes)) [
    | inl lower ↦
        let found = highest nodes (omega arith) in
        (found.0, or_right (node == found.0) (has nodes found.0) found.1, omega (arith, found.2))
    | inr here ↦ (node, or_left (node == node) (has nodes node) (eq-eqb node node refl), omega arith)
  ]

  -- each number up to a rank is some node's rank
  rank_taken : (depth r x : ℕ) → x < length graph → r ≤ slice_index ranks x → slice_index ranks x ≤ depth
      → (y : ℕ) × (y < length graph) × (slice_index ranks y ≡ r)
  rank_taken zero r x l low high = (x, l, omega arith)
  rank_taken (suc depth) r x l low high = elim (cases_lt r (slice_index ranks x)) [
    | inl less ↦
        let found = highest (successors graph x) (omega (arith, ranked x l)) in
        rank_taken depth r found.0 (is_graph x found.0 found.1) (omega (arith, found.2, ranked x l))
        (omega (arith, found.2, ranked x l))
    | inr here ↦ (x, l, omega arith)
  ]

  abbrev is_below : ℕ → ℕ → Bool
  is_below r x = nat_lt (slice_index ranks x) r

  -- one node more stands below the next number, where that number is not above a rank
  one_more : (r x : ℕ) → x < length graph → slice_index ranks x ≡ r
      → count_below (is_below r) (length graph) < count_below (is_below (suc r)) (length graph)
  one_more r x l at =
      count_below-less (is_below r) (is_below (suc r))
      (λ y h. lt-ltb (slice_index ranks y) (suc r) (omega (arith, ltb-true (slice_index ranks y) r h)))
      (length graph) x l (le-ltb (slice_index ranks x) r (omega arith)) (lt-ltb (slice_index ranks x) (suc r)
      (omega arith))

  as_many : (r x : ℕ) → x < length graph → r ≤ slice_index ranks x → r ≤ count_below (is_below r) (length graph)
  as_many zero x l high = omega arith
  as_many (suc r) x l high =
      let found = rank_taken (slice_index ranks x) r x l (omega arith) (omega arith) in
      omega (arith, as_many r x l (omega arith), one_more r found.0 found.1 found.2)

  pub rank_low : (x : ℕ) → x < length graph → slice_index ranks x < length graph
  rank_low x l =
      omega (
        arith,
        as_many (slice_index ranks x) x l (omega arith),
        one_more (slice_index ranks x) x l refl,
        count_below-within (is_below (suc (slice_index ranks x))) (length graph),
      )
