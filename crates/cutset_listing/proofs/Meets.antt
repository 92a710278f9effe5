-- The nodes that a search meets are those that the root reaches.
use Rattle.std.proofs.Common.{◌≡◌, ◌≢◌, ℕ, zero, suc, ◌+◌, ◌<◌, ◌≤◌, List, [], ◌∷◌, ◌++◌, length, take}
use Rattle.std.proofs.Common.{refl, sym, ◌∙◌, ap, subst, inl, inr, arith, length-append}
use Rattle.std.specs.Prelude.{◌⊎◌, ◌↔◌, nat_eq, Contains, slice_index_or}
use Rattle.std.specs.List.{list_any, AllByRecursion}
use Rattle.std.specs.Cmp.{nat_eq_equiv}
use Rattle.std.proofs.lemmas.Bool.{cases_Bool, cases_lt, lt-ltb, le-ltb, eqb-true}
use Rattle.std.proofs.lemmas.List.{take-append-le, take_all, take_more, get_or_append_left}
use Rattle.std.proofs.lemmas.List.Elements.{Contains-append_left, Contains-append_right, Contains-get_or}
use Rattle.std.proofs.lemmas.Map.Views.{Contains-from_any, list_any-from_Contains}
use Rattle.unit_sets.proofs.Sorted.{Contains-cons_first, Contains-cons_other, all-push}
use Rattle.zdd_words.specs.Reference.{IsReference}
use Rattle.zdd_words.specs.Word.{packed, lo_of, hi_of}
use Rattle.zdd_words.proofs.WordLemmas.{lo_of-packed, hi_of-packed}
use Rattle.zdd_families.specs.{Map.Knows, Map.IsClosed, Counting.EachOnce}
use Rattle.zdd_families.proofs.{MapLemmas.lo_known, MapLemmas.hi_known, CountingLemmas.each_once-length}
use Rattle.zdd_families.proofs.{CutsLemmas.each-contains, CutsLemmas.each-from_contains}
use Rattle.zdd_families.specs.Nodes.{Reaches, reaches_itself, reaches_lo, reaches_hi}
use Rattle.cutset_listing.specs.Nodes.{with_node}
use Rattle.cutset_listing.proofs.NodesLemmas.{IsMet, HasParts, HasMet}

-- ---- one reference more

-- it was a terminal or among them, or stands behind them
pub record Stays (r : ℕ) (nodes : List ℕ) : Type 0 where
  pub same : with_node r nodes ≡ nodes
  pub known : (r < 2) ⊎ Contains nodes r

pub record Comes (r : ℕ) (nodes : List ℕ) : Type 0 where
  pub behind : with_node r nodes ≡ nodes ++ r ∷ []
  pub inner : 2 ≤ r
  pub new : Contains nodes r → ⊥

with_node-cases : (r : ℕ) (nodes : List ℕ) → Stays r nodes ⊎ Comes r nodes
with_node-cases r nodes =
    elim (cases_lt r 2) [
      | inl terminal ↦ inl (record { same = rw (lt-ltb r 2 terminal) refl; known = inl terminal })
      | inr inner ↦ elim (cases_Bool (list_any (nat_eq r) nodes)) [
        | inl there ↦ inl (record {
          same = rw (le-ltb r 2 inner, there) refl;
          known = inr (Contains-from_any (λ x y same. eqb-true x y same) r nodes there);
        })
        | inr none ↦ inr (record {
          behind = rw (le-ltb r 2 inner, none) refl;
          inner = inner;
          new = λ has. let e = list_any-from_Contains nat_eq_equiv r nodes has in absurd cc;
        })
      ]
    ]

with_node-grows : (r : ℕ) (nodes : List ℕ) (q : ℕ) → Contains nodes q → Contains (with_node r nodes) q
with_node-grows r nodes q has =
    elim (with_node-cases r nodes) [
      | inl stays ↦ subst (λ l. Contains l q) (sym stays.same) has
      | inr comes ↦ subst (λ l. Contains l q) (sym comes.behind) (Contains-append_left nodes (r ∷ []) q has)
    ]

with_node-front : (r : ℕ) (nodes : List ℕ) (place : ℕ) → place ≤ length nodes
    → take place (with_node r nodes) ≡ take place nodes
with_node-front r nodes place short =
    elim (with_node-cases r nodes) [
      | inl stays ↦ ap (λ l. take place l) stays.same
      | inr comes ↦ ap (λ l. take place l) comes.behind ∙ take-append-le place nodes (r ∷ []) short
    ]

with_node-at : (r : ℕ) (nodes : List ℕ) (place : ℕ) → place < length nodes
    → slice_index_or (with_node r nodes) place 0 ≡ slice_index_or nodes place 0
with_node-at r nodes place short =
    elim (with_node-cases r nodes) [
      | inl stays ↦ ap (λ l. slice_index_or l place 0) stays.same
      | inr comes ↦ ap (λ l. slice_index_or l place 0) comes.behind ∙ get_or_append_left nodes (r ∷ []) 0 place short
    ]

with_node-longer : (r : ℕ) (nodes : List ℕ) → length nodes ≤ length (with_node r nodes)
with_node-longer r nodes =
    elim (with_node-cases r nodes) [
      | inl stays ↦ let e = ap length stays.same in omega (arith, e)
      | inr comes ↦ let e = ap length comes.behind in let e' = length-append nodes (r ∷ []) in omega (arith, e, e')
    ]

each_once-push : (nodes : List ℕ) (r : ℕ) → EachOnce nodes → (Contains nodes r → ⊥) → EachOnce (nodes ++ r ∷ [])
each_once-push [] r once new = (tt, tt)
each_once-push (node ∷ nodes) r once new = (
  all-push (λ y. node ≢ y) nodes r once.0 (λ same.
      new (subst (λ q. Contains (node ∷ nodes) q) same (Contains-cons_first node nodes))),
  each_once-push nodes r once.1 (λ has. new (Contains-cons_other node r nodes has)),
)

with_node-once : (r : ℕ) (nodes : List ℕ) → EachOnce nodes → EachOnce (with_node r nodes)
with_node-once r nodes once =
    elim (with_node-cases r nodes) [
      | inl stays ↦ subst EachOnce (sym stays.same) once
      | inr comes ↦ subst EachOnce (sym comes.behind) (each_once-push nodes r once comes.new)
    ]

-- ---- what the root reaches

module _ (known : ℕ → ℕ) (closed : IsClosed known) where
  reached-inner : {r q : ℕ} → Reaches known r q → known q ≢ 0
  reached-inner (reaches_itself has) = has
  reached-inner (reaches_lo has deeper) = reached-inner deeper
  reached-inner (reaches_hi has deeper) = reached-inner deeper

  reaches_then : {r q p : ℕ} → Reaches known r q → Reaches known q p → Reaches known r p
  reaches_then (reaches_itself has) more = more
  reaches_then (reaches_lo has deeper) more = reaches_lo has (reaches_then deeper more)
  reaches_then (reaches_hi has deeper) more = reaches_hi has (reaches_then deeper more)

  met-now : (r : ℕ) (nodes : List ℕ) → IsMet known (with_node r nodes) r
  met-now r nodes has =
      elim (with_node-cases r nodes) [
        | inl stays ↦ elim stays.known [
          | inl terminal ↦ absurd (let inner = (closed r has).0 in omega (arith, inner, terminal))
          | inr there ↦ subst (λ l. Contains l r) (sym stays.same) there
        ]
        | inr comes ↦ subst (λ l. Contains l r) (sym comes.behind)
            (Contains-append_right nodes (r ∷ []) r (Contains-cons_first r []))
      ]

  with_node-reached : (root r : ℕ) (nodes : List ℕ) → (2 ≤ r → Reaches known root r)
      → AllByRecursion (Reaches known root) nodes → AllByRecursion (Reaches known root) (with_node r nodes)
  with_node-reached root r nodes reaches all =
      elim (with_node-cases r nodes) [
        | inl stays ↦ subst (AllByRecursion (Reaches known root)) (sym stays.same) all
        | inr comes ↦ subst (AllByRecursion (Reaches known root)) (sym comes.behind)
            (all-push (Reaches known root) nodes r all (reaches comes.inner))
      ]

  -- the root alone
  pub meets_root : (root : ℕ) → Knows known root → HasMet known root (with_node root []) 0
  meets_root root knows = record {
    once = with_node-once root [] tt;
    reached = with_node-reached root root [] (λ inner. elim knows [
      | inl terminal ↦ absurd (omega (arith, inner, terminal))
      | inr has ↦ reaches_itself has
    ]) tt;
    from_root = met-now root [];
    parts = tt;
  }

  -- a reference that the root reaches
  meets_more : {root : ℕ} (r : ℕ) {nodes : List ℕ} {place : ℕ} → (2 ≤ r → Reaches known root r) → place ≤ length nodes
      → HasMet known root nodes place → HasMet known root (with_node r nodes) place
  meets_more {root} r {nodes} {place} reaches short met = record {
    once = with_node-once r nodes met.once;
    reached = with_node-reached root r nodes reaches met.reached;
    from_root = λ has. with_node-grows r nodes root (met.from_root has);
    parts = subst (AllByRecursion (HasParts known (with_node r nodes))) (sym (with_node-front r nodes place short))
        (each-from_contains (HasParts known (with_node r nodes)) (take place nodes) (λ q in_front.
        let parts = each-contains (HasParts known nodes) (take place nodes) q met.parts in_front in (
          λ has. with_node-grows r nodes (lo_of (known q)) (parts.0 has),
          λ has. with_node-grows r nodes (hi_of (known q)) (parts.1 has),
        )));
  }

  module _ {root : ℕ} {nodes : List ℕ} {place r : ℕ} (met : HasMet known root nodes place)
      (short : place < length nodes) (is : r ≡ slice_index_or nodes place 0) where
    here : Reaches known root r
    here =
        each-contains (Reaches known root) nodes r met.reached
        (subst (Contains nodes) (sym is) (Contains-get_or nodes place 0 short))

    pub inner : known r ≢ 0
    inner = reached-inner here

    part_reached : {part : ℕ} → Knows known part → (known part ≢ 0 → Reaches known r part) → 2 ≤ part
        → Reaches known root part
    part_reached knows reaches above = elim knows [
      | inl terminal ↦ absurd (omega (arith, above, terminal))
      | inr has ↦ reaches_then here (reaches has)
    ]

    lo_reached : 2 ≤ lo_of (known r) → Reaches known root (lo_of (known r))
    lo_reached = part_reached (lo_known (closed r inner).1) (λ has. reaches_lo inner (reaches_itself has))

    hi_reached : 2 ≤ hi_of (known r) → Reaches known root (hi_of (known r))
    hi_reached = part_reached (hi_known (closed r inner).1) (λ has. reaches_hi inner (reaches_itself has))

    -- both parts of the next node
    pub meets_parts : {lo hi : ℕ} {nodes' : List ℕ} → lo ≡ lo_of (known r) → hi ≡ hi_of (known r)
        → nodes' ≡ with_node hi (with_node lo nodes) →
        HasMet known root nodes' (place + 1) × (place + 1 ≤ length nodes')
    meets_parts {hi} {nodes'} lo_is hi_is nodes_is =
        let first : List ℕ = with_node (lo_of (known r)) nodes in
        let both : List ℕ = with_node (hi_of (known r)) first in
        let longer : length nodes ≤ length first = with_node-longer (lo_of (known r)) nodes in
        let longer' : length first ≤ length both = with_node-longer (hi_of (known r)) first in
        let met' : HasMet known root both place =
        meets_more (hi_of (known r)) hi_reached (omega (arith, short, longer))
        (meets_more (lo_of (known r)) lo_reached (omega (arith, short)) met) in
        let front : take (place + 1) both ≡ take place both ++ r ∷ [] =
        take_more both place 0 (omega (arith, short, longer, longer'))
        ∙ ap (λ q. take place both ++ q ∷ []) (with_node-at (hi_of (known r)) first place
        (omega (arith, short, longer)) ∙ with_node-at (lo_of (known r)) nodes place short ∙ sym is) in
        let whole : nodes' ≡ both =
        nodes_is ∙ ap (λ q. with_node hi (with_node q nodes)) lo_is ∙ ap (λ q. with_node q first) hi_is in
        let long : length nodes' ≡ length both = ap length whole in (
          subst (λ l. HasMet known root l (place + 1)) (sym whole)
              (record {
                once = met'.once;
                reached = met'.reached;
                from_root = met'.from_root;
                parts = subst (AllByRecursion (HasParts known both)) (sym front)
                    (all-push (HasParts known both) (take place both) r met'.parts (
                      λ lo_has. with_node-grows (hi_of (known r)) first (lo_of (known r))
                          (met-now (lo_of (known r)) nodes lo_has),
                      met-now (hi_of (known r)) first,
                    ));
              }),
          omega (arith, long, short, longer, longer'),
        )

  -- where all parts were met, the nodes are those that the root reaches
  pub met_all : {root : ℕ} {nodes : List ℕ} {place : ℕ} → HasMet known root nodes place → length nodes ≤ place → (q : ℕ)
      → Contains nodes q ↔ Reaches known root q
  met_all {root} {nodes} {place} met all q = (
    λ has. each-contains (Reaches known root) nodes q met.reached has,
    λ reaches. follow root q reaches met.from_root,
  )
    where
      parts_of : (r : ℕ) → Contains nodes r → HasParts known nodes r
      parts_of r has =
          each-contains (HasParts known nodes) nodes r (subst (AllByRecursion (HasParts known nodes))
          (take_all place nodes all) met.parts) has

      follow : (r p : ℕ) → Reaches known r p → IsMet known nodes r → Contains nodes p
      follow r p (reaches_itself has) is = is has
      follow r p (reaches_lo has deeper) is = follow (lo_of (known r)) p deeper (parts_of r (is has)).0
      follow r p (reaches_hi has deeper) is = follow (hi_of (known r)) p deeper (parts_of r (is has)).1

-- ---- there are no more nodes than references

below : ℕ → List ℕ
below zero = []
below (suc n) = n ∷ below n

below-length : (n : ℕ) → length (below n) ≡ n
unfolding below
below-length zero = refl
below-length (suc n) = ap (λ m. suc m) (below-length n)

below-contains : (n x : ℕ) → x < n → Contains (below n) x
unfolding below
below-contains zero x less = absurd (omega (arith, less))
below-contains (suc n) x less =
    elim (cases_lt x n) [
      | inl smaller ↦ Contains-cons_other n x (below n) (below-contains n x smaller)
      | inr greater ↦ subst (Contains (n ∷ below n)) (let e : n ≡ x = omega (arith, less, greater) in e)
          (Contains-cons_first n (below n))
    ]

pub few_nodes : {known : ℕ → ℕ} (closed : IsClosed known) {root : ℕ} (size : ℕ) {nodes : List ℕ} {place : ℕ}
    → HasMet known root nodes place → ((r : ℕ) → known r ≢ 0 → r < size) → length nodes ≤ size
few_nodes {known} closed {root} size {nodes} met within =
    let long = below-length size in
    let few = each_once-length nodes (below size) met.once
    (λ q has. below-contains size q (within q (reached-inner known closed
    (each-contains (Reaches known root) nodes q met.reached has)))) in
    omega (arith, long, few)

-- the parts of a packed word
pub lo_of_word : {word : ℕ} (level : ℕ) {lo : ℕ} (hi : ℕ) → word ≡ packed level lo hi → IsReference lo → IsReference hi
    → lo ≡ lo_of word
lo_of_word level {lo} hi is is_lo is_hi = sym (ap lo_of is ∙ lo_of-packed level lo hi is_lo is_hi)

pub hi_of_word : {word : ℕ} (level lo : ℕ) {hi : ℕ} → word ≡ packed level lo hi → IsReference hi → hi ≡ hi_of word
hi_of_word level lo {hi} is is_hi = sym (ap hi_of is ∙ hi_of-packed level lo hi is_hi)
