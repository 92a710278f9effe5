-- An edge back to an open node makes one piece of all pieces from that node's on.
use Rattle.std.proofs.Common.{◌≡◌, ℕ, ◌-◌, ◌<◌, ◌≤◌, Bool, List, length, get_or, ap, ◌∙◌, inl, inr}
use Rattle.std.proofs.Common.{arith}
use Rattle.std.specs.Prelude.{slice_index}
use Rattle.std.proofs.{lemmas.List.get_or-take, lemmas.Bool.cases_lt}
use Rattle.graph_cycles.specs.{Graph.Goes, declared.walk.Stage.Stage}
use Rattle.graph_cycles.specs.Walk.{IsSound, IsKnown, Keeps, IsTop, Within, Reaches}
use Rattle.graph_cycles.proofs.Ways.{Reaches_then, Reaches-edge, some_above_or_none, top_most}

module _ {old new : List ℕ} {at : ℕ} (h : Keeps old new at) where
  same_at : (c : ℕ) → c < length new → get_or new c 0 ≡ get_or old c 0
  same_at c l = ap (λ xs. get_or xs c 0) h.front ∙ get_or-take (length new) old c 0 l

  within_front : (i j : ℕ) → Within old i j → Within new i j
  within_front i j w c l le =
      omega (arith, same_at c l, w c (omega (arith, h.shorter)) (omega (arith, same_at c l)))

  known_front : (stages : List Stage) (i y : ℕ) → IsKnown stages old i y → IsKnown stages new i y
  known_front stages i y k =
      elim k [ inl done ↦ inl done | inr found ↦ inr (found.0, found.1, within_front i found.0 found.2) ]

  -- where a kept piece begins after j, i and j lay in order before
  within_back : (i j c : ℕ) → c < length new → j < get_or new c 0 → Within new i j → Within old i j
  within_back i j c l above w d below le =
      elim (cases_lt d (length new)) [
        | inl kept ↦ omega (arith, same_at d kept, w d kept (omega (arith, same_at d kept)))
        | inr gone ↦ absurd (omega (
          arith,
          h.dropped d gone below,
          h.kept c l,
          w c l (omega (arith, h.dropped d gone below, h.kept c l)),
        ))
      ]

  -- where every kept piece begins at or before j, so does every piece that begins at or before the place
  within_all : (j : ℕ) → ((c : ℕ) → c < length new → get_or new c 0 ≤ j) → Within old at j
  within_all j all d below le =
      elim (cases_lt d (length new)) [
        | inl kept ↦ omega (arith, same_at d kept, all d kept)
        | inr gone ↦ absurd (omega (arith, h.dropped d gone below))
      ]

  pub IsSound-merged : {graph : List (List ℕ)} {stages : List Stage} {explored unclosed path : List ℕ}
      {marks : List Bool}
      {t : ℕ}
      → IsSound graph stages explored unclosed old path marks
      → IsTop path t → at < length unclosed → Goes graph (slice_index unclosed t) (slice_index unclosed at)
      → IsSound graph stages explored unclosed new path marks
  IsSound-merged {graph} {stages} {unclosed} {path} {t} s top met goes = record {
    stages_all = s.stages_all;
    explored_all = s.explored_all;
    marks_all = s.marks_all;
    fresh = s.fresh;
    nodes = s.nodes;
    opened = s.opened;
    placed = s.placed;
    closed = s.closed;
    marked = s.marked;
    together = λ i j li lj w. elim (some_above_or_none new j) [
      | inl found ↦ s.together i j li lj (within_back i j found.0 found.1 found.2 w)
      | inr none ↦
          let to_top : Reaches graph (slice_index unclosed i) (slice_index unclosed t) =
          s.together i t li open_top (λ c l _. all_before c l) in
          Reaches_then (inr (Reaches-edge (slice_index unclosed at) to_top goes))
          (s.together at j met lj (within_all j none))
    ];
    known = λ i y l seen. known_front stages i y (s.known i y l seen);
    left_done = s.left_done;
    roots = λ c l. rw (same_at c l) (s.roots c (omega (arith, h.shorter)));
    first = λ some. first_kept (s.first some);
    path_open = s.path_open;
    path_rises = s.path_rises;
    pieces_rise = λ p q less l.
        omega (
          arith,
          same_at p (omega arith),
          same_at q l,
          s.pieces_rise p q less (omega (arith, h.shorter)),
        );
  }
    where
      open_top : t < length unclosed
      open_top = omega (arith, s.path_open (length path - 1) (omega (arith, top.0)), top.1)

      all_before : (c : ℕ) → c < length old → slice_index old c ≤ t
      all_before c l = top_most path s.path_rises top.0 top.1 (s.roots c l)

      first_kept : (0 < length old) × (slice_index old 0 ≡ 0) → (0 < length new) × (slice_index new 0 ≡ 0)
      first_kept (some, zero_at) =
          elim (cases_lt 0 (length new)) [
            | inl l ↦ (l, same_at 0 l ∙ zero_at)
            | inr none ↦ absurd (omega (arith, h.dropped 0 none some))
          ]
