-- Each graph has marks of the nodes that lead to themselves, and ranks of the others.
use Rattle.std.specs.Prelude.{◌≡◌, ℕ, zero, suc, ◌+◌, ◌<◌, ◌≤◌, ◌↔◌, ◌⊎◌, ◌==◌, ◌||◌, ◌&&◌, Bool, true, false}
use Rattle.std.specs.Prelude.{List, [], ◌∷◌, length, map, IsTrue, slice_index, slice_index_or, if◌then◌else◌}
use Rattle.std.specs.List.{range_with_len}
use Rattle.std.proofs.Common.{refl, sym, ap, ◌∙◌, inl, inr, arith}
use Rattle.std.proofs.lemmas.Bool.{cases_Bool, cases_lt, or_cases, or_left, or_right, and_parts, and_from, eq-eqb}
use Rattle.std.proofs.lemmas.List.FromFn.{get_or-map-range_with_len, length-map-range_with_len}
use Rattle.graph_cycles.specs.Graph.{successors, has, Leads, IsGraph, rank_over}
use Rattle.graph_cycles.specs.Graph.Leads.{edge, way}

-- a list has its first number
pub has-first : (x : ℕ) (xs : List ℕ) → IsTrue (has (x ∷ xs) x)
has-first x xs = or_left (x == x) (has xs x) (eq-eqb x x refl)

-- and what those after it have
pub has-later : (x : ℕ) (xs : List ℕ) (y : ℕ) → IsTrue (has xs y) → IsTrue (has (x ∷ xs) y)
has-later x xs y found = or_right (x == y) (has xs y) found

-- ranks that agree on these nodes give one rank above them
pub rank_over-agree : (r r' nodes : List ℕ) → ((y : ℕ) → IsTrue (has nodes y) → slice_index r y ≡ slice_index r' y)
    → rank_over r nodes ≡ rank_over r' nodes
rank_over-agree r r' [] same = refl
rank_over-agree r r' (node ∷ nodes) same =
    cc (
      same node (has-first node nodes),
      rank_over-agree r r' nodes (λ y found. same y (has-later node nodes y found)),
    )

-- a way from x to y and one from y to z are one from x to z
pub Leads_then : {graph : List (List ℕ)} {x y z : ℕ} → Leads graph x y → Leads graph y z → Leads graph x z
Leads_then (edge e) later = way e later
Leads_then (way e more) later = way e (Leads_then more later)

-- 1 where a test is passed, else 0
abbrev bit : Bool → ℕ
bit passes = if passes then 1 else 0

bit-small : (b : Bool) → bit b ≤ 1
bit-small true = omega arith
bit-small false = omega arith

bit-more : (a b : Bool) → (a ≡ true → b ≡ true) → bit a ≤ bit b
bit-more false b more = omega arith
bit-more true b more = omega (arith, ap bit (more refl))

-- how many numbers below one pass a test
abbrev pub count_below : (ℕ → Bool) → ℕ → ℕ
count_below test zero = 0
count_below test (suc n) = bit (test n) + count_below test n

pub count_below-within : (test : ℕ → Bool) (n : ℕ) → count_below test n ≤ n
count_below-within test zero = omega arith
count_below-within test (suc n) = omega (arith, bit-small (test n), count_below-within test n)

module _ (few many : ℕ → Bool) (more : (x : ℕ) → few x ≡ true → many x ≡ true) where
  count_below-more : (n : ℕ) → count_below few n ≤ count_below many n
  count_below-more zero = omega arith
  count_below-more (suc n) = omega (arith, bit-more (few n) (many n) (more n), count_below-more n)

  -- one number that only the second test lets pass makes a difference
  pub count_below-less : (n x : ℕ) → x < n → few x ≡ false → many x ≡ true → count_below few n < count_below many n
  count_below-less zero x low fails passes = absurd (omega arith)
  count_below-less (suc n) x low fails passes = elim (cases_lt x n) [
    | inl lower ↦
        omega (arith, bit-more (few n) (many n) (more n), count_below-less n x lower fails passes)
    | inr last ↦
        let is : x ≡ n = omega arith in
        omega (arith, rw is at (ap bit fails), rw is at (ap bit passes), count_below-more n)
  ]

-- the marks of the nodes that lead to themselves, and ranks of the others: 0 of a node without successors, else one
-- more than the greatest of those
pub record IsSurvey (graph : List (List ℕ)) (marks : List Bool) (ranks : List ℕ) : Type 0 where
  pub all : length ranks ≡ length graph
  pub exact : (x : ℕ) → x < length graph → IsTrue (slice_index_or marks x false) ↔ Leads graph x x
  pub ranked : (x : ℕ) → x < length graph → slice_index_or marks x false ≡ false
      → slice_index ranks x ≡ rank_over ranks (successors graph x)

module _ (graph : List (List ℕ)) where
  -- whether y is reached from x, between them over nodes below a number alone
  abbrev reached_over : ℕ → ℕ → ℕ → Bool
  reached_over zero x y = has (successors graph x) y
  reached_over (suc k) x y = reached_over k x y || (reached_over k x k && reached_over k k y)

  over_cases : (k x y : ℕ) → reached_over (suc k) x y ≡ true
      → (reached_over k x y ≡ true) ⊎ ((reached_over k x k ≡ true) × (reached_over k k y ≡ true))
  over_cases k x y found =
      elim (or_cases (reached_over k x y) (reached_over k x k && reached_over k k y) found) [
        | inl before ↦ inl before
        | inr both ↦ inr (and_parts (reached_over k x k) (reached_over k k y) both)
      ]

  reached-leads : (k : ℕ) {x y : ℕ} → reached_over k x y ≡ true → Leads graph x y
  reached-leads zero found = edge found
  reached-leads (suc k) {x} {y} found =
      elim (over_cases k x y found) [
        | inl before ↦ reached-leads k before
        | inr (to, from) ↦ Leads_then (reached-leads k to) (reached-leads k from)
      ]

  over_more : (k x y : ℕ) → reached_over k x y ≡ true → reached_over (suc k) x y ≡ true
  over_more k x y found = or_left (reached_over k x y) (reached_over k x k && reached_over k k y) found

  over_last : (k x y : ℕ) → reached_over k x k ≡ true → reached_over k k y ≡ true → reached_over (suc k) x y ≡ true
  over_last k x y to from =
      or_right (reached_over k x y) (reached_over k x k && reached_over k k y)
      (and_from (reached_over k x k) (reached_over k k y) to from)

  -- two ways that meet at a node below the number
  over_joined : (k x y z : ℕ) → y < k → reached_over k x y ≡ true → reached_over k y z ≡ true
      → reached_over k x z ≡ true
  over_joined zero x y z low one two = absurd (omega arith)
  over_joined (suc k) x y z low one two = elim (cases_lt y k) [
    | inl lower ↦ elim (over_cases k x y one) [
      | inl here ↦ elim (over_cases k y z two) [
        | inl next ↦ over_more k x z (over_joined k x y z lower here next)
        | inr (to, from) ↦ over_last k x z (over_joined k x y k lower here to) from
      ]
      | inr (to, from) ↦ over_last k x z to (elim (over_cases k y z two) [
        | inl next ↦ over_joined k k y z lower from next
        | inr (_, after) ↦ after
      ])
    ]
    | inr last ↦
        let is : y ≡ k = omega arith in
        over_last k x z
        (elim (over_cases k x y one) [ inl here ↦ rw is at here | inr (to, _) ↦ to ])
        (elim (over_cases k y z two) [ inl next ↦ rw is at next | inr (_, from) ↦ from ])
  ]

  over_all : (k x y : ℕ) → has (successors graph x) y ≡ true → reached_over k x y ≡ true
  over_all zero x y found = found
  over_all (suc k) x y found = over_more k x y (over_all k x y found)

  -- whether x leads to y
  abbrev leads : ℕ → ℕ → Bool
  leads x y = reached_over (length graph) x y

  abbrev reach_count : ℕ → ℕ
  reach_count x = count_below (leads x) (length graph)

  -- a node's rank by those of its successors; 0 of a node that leads to itself
  abbrev rank_by : List ℕ → ℕ → ℕ
  rank_by ranks x = if leads x x then 0 else rank_over ranks (successors graph x)

  -- the ranks, so many steps down
  abbrev ranks_down : ℕ → List ℕ
  ranks_down zero = []
  ranks_down (suc depth) = map (rank_by (ranks_down depth)) (range_with_len 0 (length graph))

  rank_at : (depth x : ℕ) → x < length graph
      → slice_index (ranks_down (suc depth)) x ≡ rank_by (ranks_down depth) x
  rank_at depth x low = get_or-map-range_with_len (rank_by (ranks_down depth)) 0 (length graph) x x 0 low (omega arith)

  rank_where : (depth x : ℕ) {mark : Bool} → x < length graph → leads x x ≡ mark
      → slice_index (ranks_down (suc depth)) x
      ≡ (if mark then 0 else rank_over (ranks_down depth) (successors graph x))
  rank_where depth x low is =
      rank_at depth x low ∙ ap (λ b. if b then 0 else rank_over (ranks_down depth) (successors graph x)) is

  cyclic_rank : (depth x : ℕ) → x < length graph → leads x x ≡ true → slice_index (ranks_down depth) x ≡ 0
  cyclic_rank zero x low cyclic = refl
  cyclic_rank (suc depth) x low cyclic = rank_where depth x low cyclic

  abbrev all_marks : List Bool
  all_marks = map (λ x. leads x x) (range_with_len 0 (length graph))

  mark_at : (x : ℕ) → x < length graph → slice_index_or all_marks x false ≡ leads x x
  mark_at x low = get_or-map-range_with_len (λ n. leads n n) 0 (length graph) x x false low (omega arith)

  module _ (is_graph : IsGraph graph) where
    leads_on : (x y z : ℕ) → has (successors graph x) y ≡ true → leads y z ≡ true → leads x z ≡ true
    leads_on x y z found =
        over_joined (length graph) x y z (is_graph x y found) (over_all (length graph) x y found)

    leads-found : {x y : ℕ} → Leads graph x y → leads x y ≡ true
    leads-found {x} {y} (edge e) = over_all (length graph) x y e
    leads-found {x} (way {y = y} e more) = leads_on x y _ e (leads-found more)

    -- a successor that does not lead to itself reaches fewer nodes, so that its rank is found earlier
    deep_enough : (depth x : ℕ) → x < length graph → reach_count x < depth
        → slice_index (ranks_down depth) x ≡ slice_index (ranks_down (suc depth)) x
    deep_enough zero x low few = absurd (omega arith)
    deep_enough (suc depth) x low few =
        rank_at depth x low
        ∙ (ap (λ rank. if leads x x then 0 else rank)
        (rank_over-agree (ranks_down depth) (ranks_down (suc depth)) (successors graph x)
        (λ y found. elim (cases_Bool (leads y y)) [
          | inl round ↦ cyclic_rank depth y (is_graph x y found) round
              ∙ sym (cyclic_rank (suc depth) y (is_graph x y found) round)
          | inr straight ↦ deep_enough depth y (is_graph x y found) (omega (
            arith,
            count_below-less (leads y) (leads x) (λ z later. leads_on x y z found later) (length graph) y
                (is_graph x y found) straight (over_all (length graph) x y found),
          ))
        ]))
        ∙ sym (rank_at (suc depth) x low))

    -- each graph has a survey
    pub survey_exists : (marks : List Bool) × (ranks : List ℕ) × IsSurvey graph marks ranks
    survey_exists = (
      all_marks,
      ranks_down (suc (length graph)),
      record {
        all = length-map-range_with_len (rank_by (ranks_down (length graph))) 0 (length graph);
        exact = λ x low. (
          λ marked. reached-leads (length graph) (sym (mark_at x low) ∙ marked),
          λ round. mark_at x low ∙ leads-found round,
        );
        ranked = λ x low unmarked.
            deep_enough (suc (length graph)) x low (omega (arith, count_below-within (leads x) (length graph)))
            ∙ rank_where (suc (length graph)) x low (sym (mark_at x low) ∙ unmarked);
      },
    )
