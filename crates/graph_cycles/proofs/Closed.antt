-- The piece at the end is closed.
use Rattle.std.proofs.Common.{◌≡◌, ◌≢◌, ℕ, ◌+◌, ◌-◌, ◌<◌, ◌≤◌, ◌⊎◌, ◌↔◌, Bool, List, length, take, drop, IsTrue, refl}
use Rattle.std.proofs.Common.{sym, ap, ◌∙◌, inl, inr, arith, length-drop}
use Rattle.std.specs.Prelude.{slice_index}
use Rattle.std.proofs.lemmas.List.{get_or-take, get_or-drop, length-take-le}
use Rattle.std.proofs.lemmas.Bool.{cases_lt}
use Rattle.graph_cycles.specs.Graph.{Goes, Leads}
use Rattle.graph_cycles.specs.declared.walk.Stage.{Stage}
use Rattle.graph_cycles.specs.declared.walk.Stage.TheVariants.{New, Open, Closed}
use Rattle.graph_cycles.specs.Walk.{IsSound, IsKnown, Within, Closes, piece_cycles, stage_at}
use Rattle.graph_cycles.specs.Walk.{mark_at}
use Rattle.graph_cycles.proofs.Left.{shorter_by_one, at_before, Rises-less, IsOn-less}
use Rattle.graph_cycles.proofs.Cycles.{IsClosing, InPiece, open_top, stays, cycles-leads, leads-cycles}

module _ {graph : List (List ℕ)} {stages : List Stage} {explored unclosed pieces path : List ℕ} {marks : List Bool}
    {t : ℕ}
    {stages' : List Stage} {marks' : List Bool}
    (h : IsClosing graph stages explored unclosed pieces path marks t)
    (c : Closes (drop t unclosed) (piece_cycles graph unclosed t) stages stages' marks marks') where
  pub top_open : t < length unclosed
  top_open = open_top h

  abbrev node : ℕ → ℕ
  node i = slice_index unclosed i

  at_tail : (i : ℕ) → t ≤ i → slice_index (drop t unclosed) (i - t) ≡ node i
  at_tail i from =
      let place : t + (i - t) ≡ i = omega arith in get_or-drop t unclosed (i - t) 0 ∙ ap node place

  pub closes_stage : (x : ℕ) → InPiece unclosed t x → stage_at stages' x ≡ Closed
  closes_stage x (i, from, l, is) =
      rw (← is, ← at_tail i from) (c.closed.inside (i - t) (omega (arith, length-drop t unclosed)))

  pub closes_mark : (x : ℕ) → InPiece unclosed t x → mark_at marks' x ≡ piece_cycles graph unclosed t
  closes_mark x (i, from, l, is) =
      rw (← is, ← at_tail i from) (c.marked.inside (i - t) (omega (arith, length-drop t unclosed)))

  -- a node stays as it was, and where it was open its position is before t
  abbrev IsKept : ℕ → Type 0
  IsKept x = (stage_at stages' x ≡ stage_at stages x) × (mark_at marks' x ≡ mark_at marks x)
      × ((i : ℕ) → stage_at stages x ≡ Open i → i < t)

  kept : (x : ℕ) → ((i : ℕ) → stage_at stages x ≡ Open i → i < t) → IsKept x
  kept x before = (c.closed.outside x apart, c.marked.outside x apart, before)
    where
      apart : (k : ℕ) → k < length (drop t unclosed) → slice_index (drop t unclosed) k ≢ x
      apart k l same =
          let below : t + k < length unclosed = omega (arith, length-drop t unclosed) in
          let is : node (t + k) ≡ x = sym (get_or-drop t unclosed k 0) ∙ same in
          omega (arith, before (t + k) (sym (ap (stage_at stages) is) ∙ h.sound.opened (t + k) below))

  by_stage : (x : ℕ) (stage : Stage) → stage_at stages x ≡ stage → IsKept x ⊎ InPiece unclosed t x
  by_stage x New is = inl (kept x (λ i is'. absurd cc))
  by_stage x Closed is = inl (kept x (λ i is'. absurd cc))
  by_stage x (Open i) is = elim (cases_lt i t) [
    | inl before ↦ inl (kept x (λ j is'. (let same : i ≡ j = cc in omega arith)))
    | inr from ↦
        let at_i : (i < length unclosed) × (node i ≡ x) = h.sound.placed x i is in inr (i, from, at_i.0, at_i.1)
  ]

  pub kept_or_in : (x : ℕ) → IsKept x ⊎ InPiece unclosed t x
  kept_or_in x = by_stage x (stage_at stages x) refl

  pub closed_stays : (x : ℕ) → stage_at stages x ≡ Closed → stage_at stages' x ≡ Closed
  closed_stays x is = elim (kept_or_in x) [ inl (same, _, _) ↦ same ∙ is | inr inside ↦ closes_stage x inside ]

  open_stays : (x j : ℕ) → stage_at stages x ≡ Open j → j < t → stage_at stages' x ≡ Open j
  open_stays x j is before = (kept x (λ i is'. (let same : j ≡ i = cc in omega arith))).0 ∙ is

  -- where a node stood whose stage is now this one
  was_open : (x j : ℕ) → stage_at stages' x ≡ Open j → (stage_at stages x ≡ Open j) × (j < t)
  was_open x j now = elim (kept_or_in x) [
    | inl (same, _, before) ↦ (sym same ∙ now, before j (sym same ∙ now))
    | inr inside ↦ absurd (cc (closes_stage x inside))
  ]

  pub was_new : (x : ℕ) → stage_at stages' x ≡ New → stage_at stages x ≡ New
  was_new x now = elim (kept_or_in x) [
    | inl (same, _, _) ↦ sym same ∙ now
    | inr inside ↦ absurd (cc (closes_stage x inside))
  ]

  pub was_closed : (x : ℕ) → stage_at stages' x ≡ Closed
      → ((stage_at stages x ≡ Closed) × (mark_at marks' x ≡ mark_at marks x)) ⊎ InPiece unclosed t x
  was_closed x now =
      elim (kept_or_in x) [ inl (same, mark, _) ↦ inl (sym same ∙ now, mark) | inr inside ↦ inr inside ]

  closed_or_in : (y : ℕ) → (stage_at stages y ≡ Closed) ⊎ InPiece unclosed t y → stage_at stages' y ≡ Closed
  closed_or_in y (inl done) = closed_stays y done
  closed_or_in y (inr inside) = closes_stage y inside

  goes_closed : (x y : ℕ) → stage_at stages' x ≡ Closed → Goes graph x y → stage_at stages' y ≡ Closed
  goes_closed x y now goes = elim (was_closed x now) [
    | inl (done, _) ↦ closed_stays y (h.sound.closed x y done goes)
    | inr (i, from, l, is) ↦ closed_or_in y (stays h i y from l (rw is goes))
  ]

  marks_exact : (x : ℕ) → stage_at stages' x ≡ Closed → IsTrue (mark_at marks' x) ↔ Leads graph x x
  marks_exact x now = elim (was_closed x now) [
    | inl (done, mark) ↦ rw mark (h.sound.marked x done)
    | inr (i, from, l, is) ↦
        rw (closes_mark x (i, from, l, is), ← is) (cycles-leads h i from l, leads-cycles h i from l)
  ]

  length_less : length (take t unclosed) ≡ t
  length_less = length-take-le t unclosed (omega (arith, top_open))

  below : {i : ℕ} → i < length (take t unclosed) → i < t
  below l = omega (arith, length_less)

  inside : {i : ℕ} → i < length (take t unclosed) → i < length unclosed
  inside l = omega (arith, length_less, top_open)

  at_kept : (i : ℕ) → i < t → slice_index (take t unclosed) i ≡ slice_index unclosed i
  at_kept i l = get_or-take t unclosed i 0 l

  within_kept : (i j : ℕ) → Within pieces i j → Within (take (length pieces - 1) pieces) i j
  within_kept i j w k l le =
      let below : k < length pieces - 1 = omega (arith, shorter_by_one pieces) in
      omega (arith, at_before pieces k below, w k (omega arith) (omega (arith, at_before pieces k below)))

  within_all : (i j : ℕ) → i < t → Within (take (length pieces - 1) pieces) i j → Within pieces i j
  within_all i j before w k l le = elim (cases_lt k (length pieces - 1)) [
    | inl below ↦ omega (
      arith,
      at_before pieces k below,
      w k (omega (arith, shorter_by_one pieces)) (omega (arith, at_before pieces k below)),
    )
    | inr last ↦
        let place : k ≡ length pieces - 1 = omega arith in
        let is : slice_index pieces k ≡ t = ap (slice_index pieces) place ∙ h.root.1 in
        absurd (omega arith)
  ]

  known_kept : (i y : ℕ) → i < t → IsKnown stages pieces i y → IsKnown stages' (take (length pieces - 1) pieces) i y
  known_kept i y before k = elim k [
    | inl done ↦ inl (closed_stays y done)
    | inr (j, is, w) ↦ elim (cases_lt j t) [
      | inl earlier ↦ inr (j, open_stays y j is earlier, within_kept i j w)
      | inr from ↦
          let at_j : (j < length unclosed) × (node j ≡ y) = h.sound.placed y j is in
          inl (closes_stage y (j, from, at_j.0, at_j.1))
    ]
  ]

  pub IsSound-closed : IsSound graph stages' explored (take t unclosed) (take (length pieces - 1) pieces)
      (take (length path - 1) path) marks'
  IsSound-closed = record {
    stages_all = c.closed.same ∙ h.sound.stages_all;
    explored_all = h.sound.explored_all;
    marks_all = c.marked.same ∙ h.sound.marks_all;
    fresh = λ x now. h.sound.fresh x (was_new x now);
    nodes =
        λ i l. omega (arith, at_kept i (below l), h.sound.nodes i (inside l));
    opened = λ i l.
        rw (at_kept i (below l)) (open_stays (node i) i (h.sound.opened i (inside l)) (below l));
    placed = λ x i now.
        let before : (stage_at stages x ≡ Open i) × (i < t) = was_open x i now in
        (omega (arith, length_less, before.1), at_kept i before.1 ∙ (h.sound.placed x i before.0).1);
    closed = goes_closed;
    marked = marks_exact;
    together = λ i j li lj w.
        rw (at_kept i (below li), at_kept j (below lj))
        (h.sound.together i j (inside li) (inside lj) (within_all i j (below li) w));
    known = λ i y l seen.
        known_kept i y (below l) (h.sound.known i y (inside l) (rw (at_kept i (below l)) at seen));
    left_done = λ i l.
        elim (h.sound.left_done i (inside l)) [
          | inl on ↦ inl (IsOn-less path h.top (λ same. absurd (omega (arith, below l))) on)
          | inr full ↦ inr (rw (at_kept i (below l)) full)
        ];
    roots = λ k l.
        let below : k < length pieces - 1 = omega (arith, shorter_by_one pieces) in
        let earlier : slice_index pieces k < slice_index pieces (length pieces - 1) =
        h.sound.pieces_rise k (length pieces - 1) below (omega (arith, h.root.0)) in
        rw (at_before pieces k below)
        (IsOn-less path h.top (λ same. absurd (omega (arith, h.root.1, earlier))) (h.sound.roots k (omega arith)));
    first = λ some.
        let at_first : (0 < length pieces) × (slice_index pieces 0 ≡ 0) = h.sound.first (omega (arith, top_open)) in
        let more : 0 < length pieces - 1 = elim (cases_lt 0 (length pieces - 1)) [
          | inl l ↦ l
          | inr none ↦
              let place : 0 ≡ length pieces - 1 = omega arith in
              absurd (omega (arith, ap (slice_index pieces) place, h.root.1, at_first.1, length_less))
        ] in
        (omega (arith, shorter_by_one pieces), at_before pieces 0 more ∙ at_first.1);
    path_open = λ p l.
        let below : p < length path - 1 = omega (arith, shorter_by_one path) in
        omega (
          arith,
          at_before path p below,
          h.sound.path_rises p (length path - 1) below (omega (arith, h.top.0)),
          h.top.1,
          length_less,
        );
    path_rises = Rises-less path h.sound.path_rises;
    pieces_rise = Rises-less pieces h.sound.pieces_rise;
  }
