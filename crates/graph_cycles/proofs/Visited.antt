-- A new node is met: it is open, a piece of its own, and the end of the path.
use Rattle.std.proofs.Common.{◌≡◌, ◌≢◌, ℕ, ◌-◌, ◌<◌, ◌⊎◌, Bool, true, false, List, [], ◌∷◌, ◌++◌, length}
use Rattle.std.proofs.Common.{refl, sym, ap, ◌∙◌, inl, inr, arith}
use Rattle.std.specs.Prelude.{slice_index, slice_set}
use Rattle.std.proofs.lemmas.List.{length-set, get_or-set_same, get_or-set_other, get_or_append_left, get_or_push}
use Rattle.std.proofs.lemmas.List.{length_push}
use Rattle.std.proofs.lemmas.Bool.{cases_lt, cases_eq}
use Rattle.graph_cycles.specs.Graph.{Goes}
use Rattle.graph_cycles.specs.declared.walk.Stage.{Stage}
use Rattle.graph_cycles.specs.declared.walk.Stage.TheVariants.{New, Open, Closed}
use Rattle.graph_cycles.specs.Walk.{IsSound, IsKnown, IsOn, IsTop, Within, Reaches, Rises, stage_at}
use Rattle.graph_cycles.proofs.Ways.{Reaches-edge, top_most}

-- one more number at the end
module _ (xs : List ℕ) (y : ℕ) where
  pub at_old : (i : ℕ) → i < length xs → slice_index (xs ++ y ∷ []) i ≡ slice_index xs i
  at_old i l = get_or_append_left xs (y ∷ []) 0 i l

  pub at_new : slice_index (xs ++ y ∷ []) (length xs) ≡ y
  at_new = get_or_push xs y 0 (length xs) refl

  pub old_or_new : (i : ℕ) → i < length (xs ++ y ∷ []) → (i < length xs) ⊎ (i ≡ length xs)
  old_or_new i l =
      elim (cases_lt i (length xs)) [ inl below ↦ inl below | inr not_below ↦ inr (omega (arith, length_push xs y)) ]

  pub IsOn-more : {i : ℕ} → IsOn xs i → IsOn (xs ++ y ∷ []) i
  IsOn-more (p, l, is) = (p, omega (arith, length_push xs y), at_old p l ∙ is)

  pub IsOn-new : IsOn (xs ++ y ∷ []) y
  IsOn-new = (length xs, omega (arith, length_push xs y), at_new)

  pub Rises-more : Rises xs → ((i : ℕ) → i < length xs → slice_index xs i < y) → Rises (xs ++ y ∷ [])
  Rises-more rises below p q less l =
      elim (old_or_new q l) [
        | inl old ↦ omega (arith, at_old p (omega arith), at_old q old, rises p q less old)
        | inr new ↦
            let same : slice_index (xs ++ y ∷ []) q ≡ y = ap (slice_index (xs ++ y ∷ [])) new ∙ at_new in
            omega (arith, at_old p (omega arith), same, below p (omega arith))
      ]

pub IsSound-visited : {graph : List (List ℕ)} {stages : List Stage} {explored unclosed pieces path : List ℕ}
    {marks : List Bool}
    (x : ℕ)
    → IsSound graph stages explored unclosed pieces path marks
    → stage_at stages x ≡ New → x < length graph
    → ((t : ℕ) → IsTop path t → Goes graph (slice_index unclosed t) x)
    → IsSound graph (slice_set stages x (Open (length unclosed))) explored (unclosed ++ x ∷ [])
    (pieces ++ length unclosed ∷ []) (path ++ length unclosed ∷ []) marks
IsSound-visited {graph} {stages} {explored} {unclosed} {pieces} {path} x s new in_graph ahead = record {
  stages_all = length-set stages x (Open n) ∙ s.stages_all;
  explored_all = s.explored_all;
  marks_all = s.marks_all;
  fresh = λ y is_new. elim (cases_eq y x) [
    | inl same ↦ let moved = here_is y same in absurd cc
    | inr other ↦ s.fresh y (sym (elsewhere y other) ∙ is_new)
  ];
  nodes = λ i l. elim (old_or_new unclosed x i l) [
    | inl old ↦ omega (arith, at_old unclosed x i old, s.nodes i old)
    | inr last ↦ omega (arith, last_is i last, in_graph)
  ];
  opened = λ i l. elim (old_or_new unclosed x i l) [
    | inl old ↦
        rw (at_old unclosed x i old) (elsewhere (slice_index unclosed i) (open_is_other i old) ∙ s.opened i old)
    | inr last ↦ rw (last_is i last) (here ∙ ap Open (sym last))
  ];
  placed = λ y i is_open. elim (cases_eq y x) [
    | inl same ↦
        let place : n ≡ i = cc (here_is y same) in
        (omega (arith, length_push unclosed x, place), last_is i (sym place) ∙ sym same)
    | inr other ↦
        let before : (i < length unclosed) × (slice_index unclosed i ≡ y) =
        s.placed y i (sym (elsewhere y other) ∙ is_open) in
        (omega (arith, length_push unclosed x, before.0), at_old unclosed x i before.0 ∙ before.1)
  ];
  closed = λ y z is_closed goes.
      let z_closed : stage_at stages z ≡ Closed = s.closed y z (was_closed y is_closed) goes in
      elsewhere z (closed_is_other z z_closed) ∙ z_closed;
  marked = λ y is_closed. s.marked y (was_closed y is_closed);
  together = λ i j li lj w. together_more i j (old_or_new unclosed x i li) (old_or_new unclosed x j lj) w;
  known = λ i y l seen. elim (old_or_new unclosed x i l) [
    | inl old ↦ known_more i y old (s.known i y old (rw (at_old unclosed x i old) at seen))
    | inr last ↦ let never : false ≡ true = rw (last_is i last, s.fresh x new) at seen in absurd cc
  ];
  left_done = λ i l. elim (old_or_new unclosed x i l) [
    | inl old ↦ elim (s.left_done i old) [
      | inl on ↦ inl (IsOn-more path n on)
      | inr full ↦ inr (rw (at_old unclosed x i old) full)
    ]
    | inr last ↦ inl (rw last (IsOn-new path n))
  ];
  roots = λ c l. elim (old_or_new pieces n c l) [
    | inl old ↦ rw (at_old pieces n c old) (IsOn-more path n (s.roots c old))
    | inr last ↦ rw (last, at_new pieces n) (IsOn-new path n)
  ];
  first = λ _. first_more;
  path_open = λ p l. elim (old_or_new path n p l) [
    | inl old ↦ omega (arith, at_old path n p old, s.path_open p old, length_push unclosed x)
    | inr last ↦ rw (last, at_new path n) (omega (arith, length_push unclosed x))
  ];
  path_rises = Rises-more path n s.path_rises s.path_open;
  pieces_rise = Rises-more pieces n s.pieces_rise piece_below;
}
  where
    n : ℕ
    n = length unclosed

    after : List Stage
    after = slice_set stages x (Open (length unclosed))

    x_in : x < length stages
    x_in = omega (arith, s.stages_all, in_graph)

    here : stage_at after x ≡ Open n
    here = get_or-set_same stages x (Open n) New x_in

    here_is : (y : ℕ) → y ≡ x → stage_at after y ≡ Open n
    here_is y same = ap (stage_at after) same ∙ here

    elsewhere : (y : ℕ) → y ≢ x → stage_at after y ≡ stage_at stages y
    elsewhere y other = get_or-set_other stages x y (Open n) New other

    last_is : (i : ℕ) → i ≡ n → slice_index (unclosed ++ x ∷ []) i ≡ x
    last_is i last = ap (slice_index (unclosed ++ x ∷ [])) last ∙ at_new unclosed x

    open_is_other : (i : ℕ) → i < length unclosed → slice_index unclosed i ≢ x
    open_is_other i l same = cc (s.opened i l)

    closed_is_other : (y : ℕ) → stage_at stages y ≡ Closed → y ≢ x
    closed_is_other y is_closed same = cc

    was_closed : (y : ℕ) → stage_at after y ≡ Closed → stage_at stages y ≡ Closed
    was_closed y is_closed = elim (cases_eq y x) [
      | inl same ↦ let moved : stage_at after y ≡ Open n = here_is y same in absurd cc
      | inr other ↦ sym (elsewhere y other) ∙ is_closed
    ]

    within_before : (i j : ℕ) → Within (pieces ++ n ∷ []) i j → Within pieces i j
    within_before i j w c l le =
        omega (
          arith,
          at_old pieces n c l,
          w c (omega (arith, length_push pieces n))
              (omega (arith, at_old pieces n c l)),
        )

    within_more : (i j : ℕ) → i < n → Within pieces i j → Within (pieces ++ n ∷ []) i j
    within_more i j below w c l le = elim (old_or_new pieces n c l) [
      | inl old ↦ omega (arith, at_old pieces n c old, w c old (omega (arith, at_old pieces n c old)))
      | inr last ↦ absurd (omega (arith, rw (last, at_new pieces n) at le))
    ]

    known_more : (i y : ℕ) → i < n → IsKnown stages pieces i y → IsKnown after (pieces ++ n ∷ []) i y
    known_more i y below k = elim k [
      | inl done ↦ inl (elsewhere y (closed_is_other y done) ∙ done)
      | inr (j, is_open, w) ↦
          let other : y ≢ x = λ same. cc in
          inr (j, elsewhere y other ∙ is_open, within_more i j below w)
    ]

    piece_below : (c : ℕ) → c < length pieces → slice_index pieces c < n
    piece_below c l =
        let on : IsOn path (slice_index pieces c) = s.roots c l in
        omega (arith, s.path_open on.0 on.1, on.2)

    path_some : 0 < n → 0 < length path
    path_some some = let on : IsOn path (slice_index pieces 0) = s.roots 0 (s.first some).0 in omega (arith, on.1)

    reaches_new : (i : ℕ) → i < n → Reaches graph (slice_index unclosed i) x
    reaches_new i l =
        let some : 0 < length path = path_some (omega arith) in
        let t : ℕ = slice_index path (length path - 1) in
        let open_top : t < n = s.path_open (length path - 1) (omega arith) in
        inr (Reaches-edge x (s.together i t l open_top (λ c lc _. top_most path {t = t} s.path_rises some refl
        (s.roots c lc)))
        (ahead t (some, refl)))

    together_more : (i j : ℕ) → (i < n) ⊎ (i ≡ n) → (j < n) ⊎ (j ≡ n) → Within (pieces ++ n ∷ []) i j
        → Reaches graph (slice_index (unclosed ++ x ∷ []) i) (slice_index (unclosed ++ x ∷ []) j)
    together_more i j (inl old) (inl old') w =
        rw (at_old unclosed x i old, at_old unclosed x j old') (s.together i j old old' (within_before i j w))
    together_more i j (inl old) (inr last) w =
        rw (at_old unclosed x i old, last_is j last) (reaches_new i old)
    together_more i j (inr last) (inl old) w =
        absurd (omega (
          arith,
          at_new pieces n,
          w (length pieces) (omega (arith, length_push pieces n))
              (omega (arith, at_new pieces n)),
        ))
    together_more i j (inr last) (inr last') w =
        inl (last_is i last ∙ sym (last_is j last'))

    first_more : (0 < length (pieces ++ n ∷ [])) × (slice_index (pieces ++ n ∷ []) 0 ≡ 0)
    first_more = (
      omega (arith, length_push pieces n),
      elim (cases_lt 0 (length pieces)) [
        | inl some ↦ elim (cases_lt 0 n) [
          | inl open_some ↦ at_old pieces n 0 some ∙ (s.first open_some).1
          | inr none ↦ absurd (omega (arith, piece_below 0 some))
        ]
        | inr none ↦
            let no_pieces : 0 ≡ length pieces = omega arith in
            let is : slice_index (pieces ++ n ∷ []) 0 ≡ n =
            ap (slice_index (pieces ++ n ∷ [])) no_pieces ∙ at_new pieces n in
            elim (cases_lt 0 n) [
              | inl open_some ↦ absurd (omega (arith, (s.first open_some).0))
              | inr no_open ↦ omega arith
            ]
      ],
    )
