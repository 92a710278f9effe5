-- One more edge of a node on the path is accounted for.
use Rattle.std.proofs.Common.{◌≡◌, ◌≢◌, ℕ, ◌+◌, ◌<◌, ◌⊎◌, Bool, false, List, [], ◌∷◌, length, take, get_or, IsTrue}
use Rattle.std.proofs.Common.{ap, ◌∙◌, inl, inr, arith}
use Rattle.std.specs.Prelude.{slice_index, slice_set, ◌==◌, ◌||◌}
use Rattle.std.proofs.lemmas.List.{take_more, length-set, get_or-set_same, get_or-set_other}
use Rattle.std.proofs.{lemmas.List.Folds.list_any-append, lemmas.Bool.cases_eq}
use Rattle.graph_cycles.specs.Graph.{has, successors}
use Rattle.graph_cycles.specs.declared.walk.Stage.{Stage}
use Rattle.graph_cycles.specs.declared.walk.Stage.TheVariants.{New, Open}
use Rattle.graph_cycles.specs.Walk.{IsSound, IsKnown, IsOn, stage_at}

-- among one more of a list's front is what was among it, or the new one
pub has-take_more : (xs : List ℕ) (i y : ℕ) → i < length xs → IsTrue (has (take (i + 1) xs) y)
    → IsTrue (has (take i xs) y) ⊎ (get_or xs i 0 ≡ y)
has-take_more xs i y l h =
    let more : has (take (i + 1) xs) y ≡ (has (take i xs) y || (get_or xs i 0 == y || false)) =
    ap (λ f. has f y) (take_more xs i 0 l) ∙ list_any-append (λ node. node == y) (take i xs) (get_or xs i 0 ∷ []) in
    elim (cases_eq (get_or xs i 0) y) [
      | inl same ↦ inr same
      | inr other ↦ inl (grind (arith, more, h, other))
    ]

pub IsSound-explored : {graph : List (List ℕ)} {stages : List Stage} {explored unclosed pieces path : List ℕ}
    {marks : List Bool}
    {t : ℕ}
    → IsSound graph stages explored unclosed pieces path marks
    → IsOn path t
    → slice_index explored (slice_index unclosed t) < length (successors graph (slice_index unclosed t))
    → IsKnown stages pieces t (slice_index (successors graph (slice_index unclosed t))
    (slice_index explored (slice_index unclosed t)))
    → IsSound graph stages (slice_set explored (slice_index unclosed t)
    (slice_index explored (slice_index unclosed t) + 1)) unclosed pieces path marks
IsSound-explored {graph} {stages} {explored} {unclosed} {pieces} {path} {t} s on more next = record {
  stages_all = s.stages_all;
  explored_all = length-set explored node (e + 1) ∙ s.explored_all;
  marks_all = s.marks_all;
  fresh = other_fresh;
  nodes = s.nodes;
  opened = s.opened;
  placed = s.placed;
  closed = s.closed;
  marked = s.marked;
  together = s.together;
  known = λ i y l seen. elim (cases_eq i t) [
    | inl same ↦ rw same (at_top y (rw same at seen))
    | inr other ↦ s.known i y l (rw (unchanged i l other) at seen)
  ];
  left_done = λ i l. elim (cases_eq i t) [
    | inl same ↦ inl (rw same on)
    | inr other ↦ elim (s.left_done i l) [ inl on ↦ inl on | inr full ↦ inr (omega (arith, full, unchanged i l other)) ]
  ];
  roots = s.roots;
  first = s.first;
  path_open = s.path_open;
  path_rises = s.path_rises;
  pieces_rise = s.pieces_rise;
}
  where
    node : ℕ
    node = slice_index unclosed t

    e : ℕ
    e = slice_index explored node

    after : List ℕ
    after = slice_set explored node (e + 1)

    open_top : t < length unclosed
    open_top = omega (arith, s.path_open on.0 on.1, on.2)

    node_in : node < length explored
    node_in = omega (arith, s.nodes t open_top, s.explored_all)

    at_t : stage_at stages node ≡ Open t
    at_t = s.opened t open_top

    apart : (i : ℕ) → i < length unclosed → i ≢ t → slice_index unclosed i ≢ node
    apart i l other same =
        other (cc (s.opened i l, at_t))

    unchanged : (i : ℕ) → i < length unclosed → i ≢ t
        → slice_index after (slice_index unclosed i) ≡ slice_index explored (slice_index unclosed i)
    unchanged i l other = get_or-set_other explored node (slice_index unclosed i) (e + 1) 0 (apart i l other)

    other_fresh : (x : ℕ) → stage_at stages x ≡ New → slice_index after x ≡ 0
    other_fresh x new = elim (cases_eq x node) [
      | inl same ↦ cc at_t
      | inr apart_x ↦ get_or-set_other explored node x (e + 1) 0 apart_x ∙ s.fresh x new
    ]

    at_top : (y : ℕ) → IsTrue (has (take (slice_index after node) (successors graph node)) y)
        → IsKnown stages pieces t y
    at_top y seen =
        elim (has-take_more (successors graph node) e y more
        (rw (get_or-set_same explored node (e + 1) 0 node_in) at seen)) [
          | inl before ↦ s.known t y open_top before
          | inr same ↦ rw same at next
        ]
