-- The order in which the walk closes nodes.
use Rattle.std.proofs.Common.{◌≡◌, ℕ, ◌-◌, ◌<◌, ◌≤◌, ◌⊎◌, List, ◌++◌, length, take, All, Contains}
use Rattle.std.proofs.Common.{refl, inl, inr, arith, length-append}
use Rattle.std.specs.Prelude.{slice_index}
use Rattle.std.proofs.lemmas.Bool.{cases_lt}
use Rattle.std.proofs.lemmas.List.{get_or_append_left, get_or-append_right, get_or_past, take-append-le, take_all}
use Rattle.std.proofs.lemmas.List.Elements.{All-from_get_or, Contains-append_left, Contains-append_right}
use Rattle.graph_cycles.specs.Graph.{Goes, Leads, successors, IsReverseTopological}
use Rattle.graph_cycles.specs.declared.walk.Stage.{Stage}
use Rattle.graph_cycles.specs.declared.walk.Stage.TheVariants.{New, Closed}
use Rattle.graph_cycles.specs.Walk.{AreOrdered, stage_at}
use Rattle.graph_cycles.proofs.Seal.{has-at}

-- where the same nodes are closed, the order serves
pub AreOrdered-same : {graph : List (List ℕ)} {stages : List Stage} (stages' : List Stage) {order : List ℕ}
    → ((x : ℕ) → stage_at stages x ≡ Closed → stage_at stages' x ≡ Closed)
    → ((x : ℕ) → stage_at stages' x ≡ Closed → stage_at stages x ≡ Closed)
    → AreOrdered graph stages order → AreOrdered graph stages' order
AreOrdered-same stages' {order} stays was h = record {
  closed = λ k l. stays (slice_index order k) (h.closed k l);
  all = λ x now. h.all x (was x now);
  after_successors = h.after_successors;
}

-- the nodes of a piece are closed: of a piece with a node that lies on no cycle it is the only one, and all its
-- successors were closed before
module _ {graph : List (List ℕ)} {stages : List Stage} (stages' : List Stage) {order : List ℕ} (piece : List ℕ)
    (stays : (x : ℕ) → stage_at stages x ≡ Closed → stage_at stages' x ≡ Closed)
    (closes : (k : ℕ) → k < length piece → stage_at stages' (slice_index piece k) ≡ Closed)
    (was : (x : ℕ) → stage_at stages' x ≡ Closed → (stage_at stages x ≡ Closed) ⊎ Contains piece x)
    (alone : (k : ℕ) → k < length piece → ¬ Leads graph (slice_index piece k) (slice_index piece k)
    → (k ≡ 0) × ((y : ℕ) → Goes graph (slice_index piece k) y → stage_at stages y ≡ Closed))
    (h : AreOrdered graph stages order) where
  at_order : (k : ℕ) → k < length order → slice_index (order ++ piece) k ≡ slice_index order k
  at_order k l = get_or_append_left order piece 0 k l

  at_piece : (k : ℕ) → length order ≤ k → slice_index (order ++ piece) k ≡ slice_index piece (k - length order)
  at_piece k past = get_or-append_right order piece (length order) k 0 refl (omega arith)

  in_piece : (k : ℕ) → k < length (order ++ piece) → length order ≤ k → k - length order < length piece
  in_piece k l past = omega (arith, length-append order piece)

  all_closed : (k : ℕ) → k < length (order ++ piece) → stage_at stages' (slice_index (order ++ piece) k) ≡ Closed
  all_closed k l = elim (cases_lt k (length order)) [
    | inl before ↦ rw (at_order k before) (stays (slice_index order k) (h.closed k before))
    | inr from ↦ rw (at_piece k from) (closes (k - length order) (in_piece k l from))
  ]

  abbrev IsAfter : ℕ → Type 0
  IsAfter k = All (Contains (take k (order ++ piece))) (successors graph (slice_index (order ++ piece) k))

  after_all : (node : ℕ) → ((y : ℕ) → Goes graph node y → stage_at stages y ≡ Closed)
      → All (Contains order) (successors graph node)
  after_all node done =
      All-from_get_or (Contains order) (successors graph node) 0
      (λ i l. h.all (slice_index (successors graph node) i) (done (slice_index (successors graph node) i)
      (has-at (successors graph node) i l)))

  after_last : (k : ℕ) → k ≡ length order
      → ((y : ℕ) → Goes graph (slice_index (order ++ piece) k) y → stage_at stages y ≡ Closed) → IsAfter k
  after_last k last done =
      rw (take-append-le k order piece (omega arith), take_all k order (omega arith))
      (after_all (slice_index (order ++ piece) k) done)

  after : (k : ℕ) → k < length (order ++ piece)
      → ¬ Leads graph (slice_index (order ++ piece) k) (slice_index (order ++ piece) k) → IsAfter k
  after k l no_cycle = elim (cases_lt k (length order)) [
    | inl before ↦
        rw (take-append-le k order piece (omega arith), at_order k before)
        (h.after_successors k before (rw (at_order k before) at no_cycle))
    | inr from ↦
        let found = alone (k - length order) (in_piece k l from) (rw (at_piece k from) at no_cycle) in
        after_last k (omega (arith, found.0)) (λ y goes. found.1 y (rw (at_piece k from) at goes))
  ]

  pub AreOrdered-more : AreOrdered graph stages' (order ++ piece)
  AreOrdered-more = record {
    closed = all_closed;
    all = λ x now. elim (was x now) [
      | inl done ↦ Contains-append_left order piece x (h.all x done)
      | inr inside ↦ Contains-append_right order piece x inside
    ];
    after_successors = after;
  }

closed_within : (stages : List Stage) (x : ℕ) → stage_at stages x ≡ Closed → x < length stages
closed_within stages x done = elim (cases_lt x (length stages)) [
  | inl l ↦ l
  | inr past ↦ let none : stage_at stages x ≡ New = get_or_past stages x New (omega arith) in absurd cc
]

-- once all nodes are closed the order has every node
pub whole_order : {graph : List (List ℕ)} {stages : List Stage} {order : List ℕ} → length stages ≡ length graph
    → ((x : ℕ) → x < length graph → stage_at stages x ≡ Closed) → AreOrdered graph stages order
    → IsReverseTopological graph order
whole_order {graph} {stages} {order} same closed h = record {
  nodes = All-from_get_or (λ x. x < length graph) order 0
      (λ k l. omega (arith, closed_within stages (slice_index order k) (h.closed k l)));
  all = λ x l. h.all x (closed x l);
  after_successors = h.after_successors;
}
