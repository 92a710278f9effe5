-- When the nodes of a piece whose edges are all explored lie on a cycle.
use Rattle.std.proofs.Common.{◌≡◌, ◌≢◌, ℕ, suc, ◌-◌, ◌<◌, ◌≤◌, ◌⊎◌, Bool, List, length, IsTrue, refl, sym, ap, inl, inr}
use Rattle.std.proofs.Common.{arith}
use Rattle.std.specs.Prelude.{slice_index, nat_lt}
use Rattle.std.proofs.lemmas.List.{take_all}
use Rattle.std.proofs.lemmas.Bool.{cases_lt, cases_eq, or_cases, or_left, or_right, ltb-true, lt-ltb}
use Rattle.graph_cycles.specs.Graph.{Goes, Leads, has, successors}
use Rattle.graph_cycles.specs.Graph.Leads.{edge, way}
use Rattle.graph_cycles.specs.declared.walk.Stage.{Stage}
use Rattle.graph_cycles.specs.declared.walk.Stage.TheVariants.{Closed}
use Rattle.graph_cycles.specs.Walk.{IsSound, IsTop, Reaches, piece_cycles, stage_at}
use Rattle.graph_cycles.proofs.{Ways.top_most, Surveys.Leads_then}

-- the state at which the piece that begins at the end of the path is closed
pub record IsClosing (graph : List (List ℕ)) (stages : List Stage) (explored unclosed pieces path : List ℕ)
    (marks : List Bool) (t : ℕ) : Type 0 where
  pub sound : IsSound graph stages explored unclosed pieces path marks
  pub top : IsTop path t
  pub full : length (successors graph (slice_index unclosed t)) ≤ slice_index explored (slice_index unclosed t)
  pub root : IsTop pieces t

-- a node is open from a position on
abbrev pub InPiece : List ℕ → ℕ → ℕ → Type 0
InPiece unclosed t x = (i : ℕ) × (t ≤ i) × (i < length unclosed) × (slice_index unclosed i ≡ x)

module _ {graph : List (List ℕ)} {stages : List Stage} {explored unclosed pieces path : List ℕ} {marks : List Bool}
    {t : ℕ}
    (h : IsClosing graph stages explored unclosed pieces path marks t) where
  abbrev node : ℕ → ℕ
  node i = slice_index unclosed i

  abbrev edges : ℕ → List ℕ
  edges i = successors graph (node i)

  pub open_top : t < length unclosed
  open_top = omega (arith, h.sound.path_open (length path - 1) (omega (arith, h.top.0)), h.top.1)

  -- all edges of the piece's nodes are explored
  all_explored : (i : ℕ) → t ≤ i → i < length unclosed → length (edges i) ≤ slice_index explored (node i)
  all_explored i from l = elim (h.sound.left_done i l) [
    | inl on ↦
        let same : i ≡ t = omega (arith, top_most path h.sound.path_rises h.top.0 h.top.1 on) in
        rw same h.full
    | inr full ↦ full
  ]

  -- and each leads to a closed node or stays in the piece
  pub stays : (i y : ℕ) → t ≤ i → i < length unclosed → Goes graph (node i) y
      → (stage_at stages y ≡ Closed) ⊎ InPiece unclosed t y
  stays i y from l goes =
      elim (h.sound.known i y l (rw (take_all _ (edges i) (all_explored i from l)) goes)) [
        | inl done ↦ inl done
        | inr (j, is_open, w) ↦
            let at_j : (j < length unclosed) × (node j ≡ y) = h.sound.placed y j is_open in
            let from' : t ≤ j =
            omega (arith, h.root.1, w (length pieces - 1) (omega (arith, h.root.0)) (omega (arith, h.root.1))) in
            inr (j, from', at_j.0, at_j.1)
      ]

  -- what a closed node leads to is closed
  closed_along : {x y : ℕ} → Leads graph x y → stage_at stages x ≡ Closed → stage_at stages y ≡ Closed
  closed_along {x} {y} (edge e) done = h.sound.closed x y done e
  closed_along {x} (way {y = y} e w) done = closed_along w (h.sound.closed x y done e)

  -- two nodes of the piece lead to each other
  leads_between : (i j : ℕ) → t ≤ i → i < length unclosed → t ≤ j → j < length unclosed → i ≢ j
      → Leads graph (node i) (node j)
  leads_between i j from l from' l' other =
      elim (h.sound.together i j l l' (λ c lc _. omega (
        arith,
        top_most pieces {i = slice_index pieces c} h.sound.pieces_rise h.root.0 h.root.1 (c, lc, refl),
      ))) [
        | inl same ↦ absurd (other (cc (h.sound.opened i l, h.sound.opened j l')))
        | inr leads ↦ leads
      ]

  around : (i j : ℕ) → t ≤ i → i < length unclosed → t ≤ j → j < length unclosed → i ≢ j
      → Leads graph (node i) (node i)
  around i j from l from' l' other =
      Leads_then (leads_between i j from l from' l' other)
      (leads_between j i from' l' from l (λ same. other (sym same)))

  pub cycles-leads : (i : ℕ) → t ≤ i → i < length unclosed → IsTrue (piece_cycles graph unclosed t)
      → Leads graph (node i) (node i)
  cycles-leads i from l given = elim (cases_eq i t) [
    | inl same ↦ elim (or_cases (nat_lt 1 (length unclosed - t)) (has (edges t) (node t)) given) [
      | inl two ↦
          around i (suc t) from l (omega arith) (omega (arith, ltb-true 1 (length unclosed - t) two))
          (λ e. absurd (omega arith))
      | inr loops ↦ rw same (edge loops)
    ]
    | inr other ↦ around i t from l (omega arith) open_top other
  ]

  alone : (y : ℕ) → length unclosed - t ≤ 1 → Goes graph (node t) y → Reaches graph y (node t)
      → Goes graph (node t) (node t)
  alone y one goes back = elim (stays t y (omega arith) open_top goes) [
    | inl done ↦ elim back [
      | inl same ↦ rw same at goes
      | inr leads ↦ absurd (cc (closed_along leads done, h.sound.opened t open_top))
    ]
    | inr (j, from, l, is) ↦ let place : j ≡ t = omega arith in rw (← is, place) at goes
  ]

  looped : length unclosed - t ≤ 1 → {x z : ℕ} → Leads graph x z → x ≡ node t → z ≡ node t
      → Goes graph (node t) (node t)
  looped one {z} (edge e) from to = alone z one (rw from at e) (inl to)
  looped one (way {y = y} e w) from to = alone y one (rw from at e) (inr (rw to at w))

  pub leads-cycles : (i : ℕ) → t ≤ i → i < length unclosed → Leads graph (node i) (node i)
      → IsTrue (piece_cycles graph unclosed t)
  leads-cycles i from l leads = elim (cases_lt 1 (length unclosed - t)) [
    | inl two ↦ or_left (nat_lt 1 (length unclosed - t)) (has (edges t) (node t)) (lt-ltb 1 (length unclosed - t) two)
    | inr one ↦
        let same : node i ≡ node t = ap node (let place : i ≡ t = omega arith in place) in
        or_right (nat_lt 1 (length unclosed - t)) (has (edges t) (node t)) (looped one leads same same)
  ]
