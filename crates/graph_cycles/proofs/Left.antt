-- The walk leaves the node at the end of the path, all of whose edges are explored.
use Rattle.std.proofs.Common.{◌≡◌, ◌≢◌, ℕ, ◌-◌, ◌<◌, ◌≤◌, Bool, List, length, take, sym, ap, ◌∙◌, inl, inr}
use Rattle.std.proofs.Common.{arith}
use Rattle.std.specs.Prelude.{slice_index}
use Rattle.std.proofs.lemmas.List.{get_or-take, length-take-le}
use Rattle.std.proofs.lemmas.Bool.{cases_lt, cases_eq}
use Rattle.graph_cycles.specs.{Graph.successors, declared.walk.Stage.Stage}
use Rattle.graph_cycles.specs.Walk.{IsSound, IsOn, IsTop, Rises}

-- a list without its last number
module _ (xs : List ℕ) where
  pub shorter_by_one : length (take (length xs - 1) xs) ≡ length xs - 1
  shorter_by_one = length-take-le (length xs - 1) xs (omega arith)

  pub at_before : (i : ℕ) → i < length xs - 1 → slice_index (take (length xs - 1) xs) i ≡ slice_index xs i
  at_before i l = get_or-take (length xs - 1) xs i 0 l

  pub Rises-less : Rises xs → Rises (take (length xs - 1) xs)
  Rises-less rises p q less l =
      let below : q < length xs - 1 = omega (arith, shorter_by_one) in
      omega (arith, at_before p (omega arith), at_before q below, rises p q less (omega arith))

  -- a place that is not the last one stays
  pub IsOn-less : {t i : ℕ} → IsTop xs t → i ≢ t → IsOn xs i → IsOn (take (length xs - 1) xs) i
  IsOn-less top other (p, l, is) =
      elim (cases_lt p (length xs - 1)) [
        | inl before ↦ (p, omega (arith, shorter_by_one), at_before p before ∙ is)
        | inr last ↦
            let place : p ≡ length xs - 1 = omega arith in
            absurd (other (sym is ∙ (ap (slice_index xs) place ∙ top.1)))
      ]

pub IsSound-left : {graph : List (List ℕ)} {stages : List Stage} {explored unclosed pieces path : List ℕ}
    {marks : List Bool}
    {t : ℕ}
    → IsSound graph stages explored unclosed pieces path marks
    → IsTop path t
    → length (successors graph (slice_index unclosed t)) ≤ slice_index explored (slice_index unclosed t)
    → ((c : ℕ) → c < length pieces → slice_index pieces c ≢ t)
    → IsSound graph stages explored unclosed pieces (take (length path - 1) path) marks
IsSound-left {path} {t} s top full no_root = record {
  stages_all = s.stages_all;
  explored_all = s.explored_all;
  marks_all = s.marks_all;
  fresh = s.fresh;
  nodes = s.nodes;
  opened = s.opened;
  placed = s.placed;
  closed = s.closed;
  marked = s.marked;
  together = s.together;
  known = s.known;
  left_done = λ i l. elim (cases_eq i t) [
    | inl same ↦ inr (rw same full)
    | inr other ↦ elim (s.left_done i l) [ inl on ↦ inl (IsOn-less path top other on) | inr done ↦ inr done ]
  ];
  roots = λ c l. IsOn-less path top (no_root c l) (s.roots c l);
  first = s.first;
  path_open = λ p l.
      let below : p < length path - 1 = omega (arith, shorter_by_one path) in
      omega (arith, at_before path p below, s.path_open p (omega arith));
  path_rises = Rises-less path s.path_rises;
  pieces_rise = s.pieces_rise;
}
