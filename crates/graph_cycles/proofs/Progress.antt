-- Each step of the walk leaves it sound and with less to do.
use Rattle.std.proofs.Common.{◌≡◌, ◌≢◌, ℕ, ◌+◌, ◌-◌, ◌<◌, ◌≤◌, ◌⊎◌, Bool, true, false, List, length, take, drop}
use Rattle.std.proofs.Common.{Contains, sym, ap, ◌∙◌, inl, inr, arith, length-append, length-drop}
use Rattle.std.specs.Prelude.{slice_index, slice_set, nat_lt}
use Rattle.std.proofs.lemmas.Bool.{cases_lt, cases_Bool, or_left, or_right, lt-ltb}
use Rattle.std.proofs.{lemmas.List.get_or-drop, lemmas.List.Elements.Contains-get_or}
use Rattle.graph_cycles.specs.Graph.{IsGraph, Goes, Leads, has, successors}
use Rattle.graph_cycles.specs.{declared.walk.Walk.Walk}
use Rattle.graph_cycles.specs.declared.walk.Stage.TheVariants.{Closed}
use Rattle.graph_cycles.specs.Walk.{IsSound, IsOn, IsTop, HasRanks, piece_cycles, stage_at}
use Rattle.graph_cycles.specs.Walk.{mark_at, stage_work, work_left}
use Rattle.graph_cycles.specs.State.{Stands, Steps, Counts, Follows, Shuts, explored_at, edges_at}
use Rattle.graph_cycles.proofs.{Ways.top_most, Explored.IsSound-explored, Left.IsSound-left, Left.shorter_by_one}
use Rattle.graph_cycles.proofs.{Ranked.HasRanks-one, Ranked.HasRanks-marked, Ordered.AreOrdered-more}
use Rattle.graph_cycles.proofs.{Work.work-explored, Work.work-same, Steps.Followed, Steps.Followed-Follows, Seal.has-at}
use Rattle.graph_cycles.proofs.Cycles.{IsClosing, cycles-leads, open_top, stays}
use Rattle.graph_cycles.proofs.Closed.{IsSound-closed, closed_stays, closes_mark, closes_stage, kept_or_in, was_closed}
use Rattle.graph_cycles.proofs.Closed.{was_new}

-- an edge of the node at the end of the path is followed
pub followed_edge : {graph : List (List ℕ)} {old mid : Walk} {t x : ℕ}
    → IsGraph graph → Stands graph old → IsTop old.path.items t
    → explored_at old t < length (edges_at graph old t)
    → x ≡ slice_index (edges_at graph old t) (explored_at old t)
    → Follows old mid x
    → Followed graph old mid t x
followed_edge {graph} {old} {t} whole s top more is f =
    Followed-Follows graph whole s top (rw is (has-at (edges_at graph old t) (explored_at old t) more)) f

pub top_open : (graph : List (List ℕ)) {w : Walk} {t : ℕ} → Stands graph w → IsOn w.path.items t
    → t < length w.unclosed.items
top_open graph s on = omega (arith, s.sound.path_open on.0 on.1, on.2)

-- and counted
pub Steps-explored : {graph : List (List ℕ)} {old mid new : Walk} {t x : ℕ}
    → explored_at old t < length (edges_at graph old t)
    → x ≡ slice_index (edges_at graph old t) (explored_at old t)
    → Followed graph old mid t x
    → Counts mid new t
    → Steps graph old new
Steps-explored {graph} {old} {mid} {new} {t} {x} more is d c =
    rw c.rest (record {
      stands = record { sound = rw c.explored sound; ranks = d.stands.ranks; order = d.stands.order };
      met = d.met;
      fewer =
          let works : work_left graph new.explored.items mid.stages.items + 1
          ≡ work_left graph mid.explored.items mid.stages.items =
          rw c.explored (work-explored graph mid.explored.items mid.stages.items (slice_index mid.unclosed.items t)
          d.stands.sound.explored_all d.stands.sound.stages_all node_in more_now) in
          omega (arith, d.steps);
    })
  where
    node_in : slice_index mid.unclosed.items t < length graph
    node_in = d.stands.sound.nodes t (top_open graph d.stands d.on)

    same_explored : explored_at mid t ≡ explored_at old t
    same_explored =
        ap (λ es. slice_index es (slice_index mid.unclosed.items t)) d.explored
        ∙ ap (slice_index old.explored.items) d.node

    same_edges : edges_at graph mid t ≡ edges_at graph old t
    same_edges = ap (successors graph) d.node

    more_now : explored_at mid t < length (edges_at graph mid t)
    more_now = omega (arith, same_explored, ap length same_edges, more)

    same_edge : slice_index (edges_at graph mid t) (explored_at mid t) ≡ x
    same_edge =
        ap (λ row. slice_index row (explored_at mid t)) same_edges
        ∙ (ap (slice_index (edges_at graph old t)) same_explored ∙ sym is)

    sound : IsSound graph mid.stages.items (slice_set mid.explored.items (slice_index mid.unclosed.items t)
        (explored_at mid t + 1)) mid.unclosed.items mid.pieces.items mid.path.items mid.on_cycle.items
    sound = IsSound-explored d.stands.sound d.on more_now (rw same_edge d.known)

-- no piece begins at the end of the path where the last one doesn't
no_root : (graph : List (List ℕ)) {old : Walk} {t : ℕ} → Stands graph old → IsTop old.path.items t
    → ¬ IsTop old.pieces.items t
    → (c : ℕ) → c < length old.pieces.items → slice_index old.pieces.items c ≢ t
no_root graph {old} {t} s top other c l same =
    let last_on : slice_index old.pieces.items (length old.pieces.items - 1) ≤ t =
    top_most old.path.items s.sound.path_rises top.0
    top.1 (s.sound.roots (length old.pieces.items - 1) (omega arith)) in
    elim (cases_lt c (length old.pieces.items - 1)) [
      | inl before ↦ absurd (omega (arith, s.sound.pieces_rise c (length old.pieces.items - 1) before (omega arith)))
      | inr last ↦
          let place : c ≡ length old.pieces.items - 1 = omega arith in
          other (omega arith, sym (ap (slice_index old.pieces.items) place) ∙ same)
    ]

-- the node at the end of the path is left
pub Steps-left : {graph : List (List ℕ)} {old new : Walk} {t : ℕ} → Stands graph old → IsTop old.path.items t
    → length (edges_at graph old t) ≤ explored_at old t
    → ¬ IsTop old.pieces.items t
    → new ≡ record old { path = new.path }
    → new.path.items ≡ take (length old.path.items - 1) old.path.items
    → Steps graph old new
Steps-left {graph} {old} s top full other same is =
    rw same (record {
      stands = record {
        sound = rw is (IsSound-left s.sound top full (no_root graph s top other));
        ranks = s.ranks;
        order = s.order;
      };
      met = λ y now. now;
      fewer = omega (arith, ap length is, shorter_by_one old.path.items, top.0);
    })

module _ (graph : List (List ℕ)) {old : Walk} (new : Walk) {t : ℕ}
    (s : Stands graph old) (top : IsTop old.path.items t) (full : length (edges_at graph old t) ≤ explored_at old t)
    (root : IsTop old.pieces.items t)
    (h : Shuts graph old new t) where
  closing : IsClosing graph old.stages.items old.explored.items old.unclosed.items old.pieces.items old.path.items
      old.on_cycle.items t
  closing = record { sound = s.sound; top = top; full = full; root = root }

  abbrev node : ℕ → ℕ
  node i = slice_index old.unclosed.items i

  abbrev piece : List ℕ
  piece = drop t old.unclosed.items

  abbrev cycles : Bool
  cycles = piece_cycles graph old.unclosed.items t

  more_closed : length old.closed.items < length new.closed.items
  more_closed =
      omega (
        arith,
        ap length h.closed,
        length-append old.closed.items piece,
        length-drop t old.unclosed.items,
        open_top closing,
      )

  was_unmarked : cycles ≡ true → (x : ℕ) → stage_at new.stages.items x ≡ Closed → mark_at new.on_cycle.items x ≡ false
      → (stage_at old.stages.items x ≡ Closed) × (mark_at old.on_cycle.items x ≡ false)
  was_unmarked cyclic x now unmarked = elim (was_closed closing h.sealed x now) [
    | inl (done, mark) ↦ (done, sym mark ∙ unmarked)
    | inr inside ↦ absurd (cc (closes_mark closing h.sealed x inside))
  ]

  alone : cycles ≡ false → length old.unclosed.items - t ≤ 1
  alone acyclic = elim (cases_lt 1 (length old.unclosed.items - t)) [
    | inl two ↦ absurd (cc (or_left (nat_lt 1 (length old.unclosed.items - t))
        (has (successors graph (node t)) (node t)) (lt-ltb 1 (length old.unclosed.items - t) two)))
    | inr one ↦ one
  ]

  loopless : cycles ≡ false → ¬ Goes graph (node t) (node t)
  loopless acyclic goes =
      cc (or_right (nat_lt 1 (length old.unclosed.items - t)) (has (successors graph (node t)) (node t)) goes)

  was_other : cycles ≡ false → (x : ℕ) → stage_at new.stages.items x ≡ Closed → x ≢ node t
      → (stage_at old.stages.items x ≡ Closed) × (mark_at new.on_cycle.items x ≡ mark_at old.on_cycle.items x)
  was_other acyclic x now other = elim (was_closed closing h.sealed x now) [
    | inl before ↦ before
    | inr (i, from, l, is) ↦
        let place : i ≡ t = omega (arith, alone acyclic) in absurd (other (sym is ∙ ap node place))
  ]

  has_ranks : HasRanks graph new.stages.items new.ranks.items new.on_cycle.items (length new.closed.items)
  has_ranks =
      elim (cases_Bool cycles) [
        | inl cyclic ↦
            rw (h.unranked cyclic) (HasRanks-marked new.stages.items new.on_cycle.items (length new.closed.items)
            (was_unmarked cyclic) (omega (arith, more_closed)) s.ranks)
        | inr acyclic ↦
            rw (h.ranked acyclic) (HasRanks-one new.stages.items new.on_cycle.items (length new.closed.items) (node t)
            (omega (arith, s.ranks.ranks_all, s.sound.nodes t (open_top closing)))
            (λ done. absurd (cc (s.sound.opened t (open_top closing))))
            s.sound.closed (was_other acyclic) (loopless acyclic) more_closed s.ranks)
      ]

  -- ---- the order

  at_piece : (k : ℕ) → slice_index piece k ≡ node (t + k)
  at_piece k = get_or-drop t old.unclosed.items k 0

  was_or_in : (x : ℕ) → stage_at new.stages.items x ≡ Closed
      → (stage_at old.stages.items x ≡ Closed) ⊎ Contains piece x
  was_or_in x now = elim (was_closed closing h.sealed x now) [
    | inl before ↦ inl before.0
    | inr (i, from, l, is) ↦
        let place : t + (i - t) ≡ i = omega arith in
        inr (rw (at_piece (i - t), place, is)
        at (Contains-get_or piece (i - t) 0 (omega (arith, length-drop t old.unclosed.items))))
  ]

  -- what the node alone in its piece leads to was closed before
  goes_closed : cycles ≡ false → (y : ℕ) → Goes graph (node t) y → stage_at old.stages.items y ≡ Closed
  goes_closed acyclic y goes =
      elim (stays closing t y (omega arith) (open_top closing) goes) [
        | inl done ↦ done
        | inr (j, from, l, is) ↦
            let place : j ≡ t = omega (arith, alone acyclic) in absurd (loopless acyclic (rw (← is, place) at goes))
      ]

  stands_alone : (k : ℕ) → k < length piece → ¬ Leads graph (slice_index piece k) (slice_index piece k)
      → (k ≡ 0) × ((y : ℕ) → Goes graph (slice_index piece k) y → stage_at old.stages.items y ≡ Closed)
  stands_alone k l no_cycle =
      let below : t + k < length old.unclosed.items = omega (arith, length-drop t old.unclosed.items) in
      elim (cases_Bool cycles) [
        | inl cyclic ↦
            absurd (no_cycle (rw (at_piece k) (cycles-leads closing (t + k) (omega arith) below cyclic)))
        | inr acyclic ↦
            let first : k ≡ 0 = omega (arith, alone acyclic) in
            let place : t + k ≡ t = omega arith in
            (first, λ y goes. goes_closed acyclic y (rw (at_piece k, place) at goes))
      ]

  same_work : (x : ℕ) → stage_work (stage_at new.stages.items x) ≡ stage_work (stage_at old.stages.items x)
  same_work x = elim (kept_or_in closing h.sealed x) [
    | inl (same, _, _) ↦ ap stage_work same
    | inr (i, from, l, is) ↦ rw (closes_stage closing h.sealed x (i, from, l, is), ← is, s.sound.opened i l)
  ]

  pub Steps-closed : Steps graph old new
  Steps-closed = record {
    stands = record {
      sound = rw (h.explored, h.unclosed, h.pieces, h.path) (IsSound-closed closing h.sealed);
      ranks = has_ranks;
      order =
          rw h.closed (AreOrdered-more new.stages.items piece (closed_stays closing h.sealed)
          h.sealed.closed.inside was_or_in stands_alone s.order);
    };
    met = was_new closing h.sealed;
    fewer =
        let works : work_left graph new.explored.items new.stages.items
        ≡ work_left graph old.explored.items old.stages.items =
        rw h.explored (work-same graph old.explored.items old.stages.items new.stages.items h.sealed.closed.same
        same_work) in
        omega (arith, ap length h.path, shorter_by_one old.path.items, top.0);
  }
