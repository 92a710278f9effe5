-- Lists of the sets of each size, one after the other, are a list in the order of cut sets.
use Rattle.std.proofs.Common.{◌≡◌, ℕ, zero, suc, ◌+◌, ◌-◌, ◌<◌, ◌≤◌, Bool, true, false, List, [], ◌∷◌, ◌++◌, length}
use Rattle.std.proofs.Common.{take, drop, refl, sym, ◌∙◌, ap, subst, inl, inr, arith, append_assoc, eq-eqb}
use Rattle.std.specs.Prelude.{filter, ◌==◌, Contains, nat_le, sum_by}
use Rattle.std.specs.{List.AllByRecursion, List.Sorted.IsStrictlySortedBy, Ordering.nat_cmp, Ordering.ordering_then}
use Rattle.std.specs.{declared.cmp.Ordering.Ordering, declared.cmp.Ordering.TheVariants.Less}
use Rattle.std.proofs.lemmas.Bool.{cases_Bool, cases_lt, cases_eq, ne_eqb, eqb-true}
use Rattle.std.proofs.{lemmas.Bool.Decides.nat_tests, lemmas.Cmp.nat_cmp_total, lemmas.Cmp.tied_itself}
use Rattle.std.proofs.{lemmas.List.append-nil, lemmas.List.Sums.sum_by-append, lemmas.List.Sums.sum_by-cons}
use Rattle.std.proofs.lemmas.List.{Kept.IsStrictlySortedBy-filter, Elements.All-contains, Elements.All-filter}
use Rattle.std.proofs.lemmas.List.Elements.{All-from_recursion, filter_passes, Contains-append_cases}
use Rattle.std.proofs.lemmas.List.Elements.{Contains-append_left, Contains-append_right}
use Rattle.unit_sets.specs.CutOrder.{cut_cmp, IsInCutOrder, weight}
use Rattle.unit_sets.specs.UnitList.{IsRising}
use Rattle.unit_sets.proofs.Sorted.{Contains-cons_first, Contains-cons_other, Contains-cons_cases, Contains-nil}
use Rattle.zdd_families.specs.Family.{IsFamily, set_cmp}
use Rattle.zdd_families.proofs.{CutsLemmas.each-contains, CutsLemmas.each-from_contains}
use Rattle.zdd_families.proofs.Lists.{each-weaker, sorted-append, filter-all}
use Rattle.cutset_listing.specs.BySize.{of_size, at_size, joined}
use Rattle.cutset_listing.specs.Listing.{HasSetsOf, LacksEmptySet}
use Rattle.cutset_listing.proofs.{Behind.weight-append, Walks.each-front}

each-back : {K : Type 0} (P : K → Type 0) (xs ys : List K) → AllByRecursion P (xs ++ ys) → AllByRecursion P ys
each-back P [] ys all = all
each-back P (x ∷ xs) ys all = each-back P xs ys all.1

sorted-front : {K : Type 0} (R : K → K → Ordering) (xs ys : List K) → IsStrictlySortedBy R (xs ++ ys)
    → IsStrictlySortedBy R xs
unfolding IsStrictlySortedBy
sorted-front R [] ys sorted = tt
sorted-front R (x ∷ xs) ys sorted = (each-front (λ y. R x y ≡ Less) xs ys sorted.0, sorted-front R xs ys sorted.1)

-- ---- the sets of one size

Contains-of_size : (size : ℕ) (f : List (List ℕ)) (set : List ℕ) → Contains (of_size size f) set
    → Contains f set × (length set ≡ size)
Contains-of_size size f set has =
    let test : List ℕ → Bool = λ set. length set == size in (
      All-contains (Contains f) (of_size size f) set (All-filter test (Contains f) f
          (All-from_recursion (Contains f) f (each-from_contains (Contains f) f (λ x h. h)))) has,
      eqb-true (length set) size (All-contains (λ s. test s ≡ true) (of_size size f) set (filter_passes test f) has),
    )

of_size-Contains : (f : List (List ℕ)) (set : List ℕ) → Contains f set → Contains (of_size (length set) f) set
of_size-Contains [] set has = Contains-nil set has
of_size-Contains (first ∷ f) set has =
    elim (cases_Bool (length first == length set)) [
      | inl so_long ↦ rw so_long (elim (Contains-cons_cases first set f has) [
        | inl same ↦ subst (λ q. Contains (first ∷ of_size (length set) f) q) same
            (Contains-cons_first first (of_size (length set) f))
        | inr later ↦ Contains-cons_other first set (of_size (length set) f) (of_size-Contains f set later)
      ])
      | inr other ↦ rw other (elim (Contains-cons_cases first set f has) [
        | inl same ↦ let e = eq-eqb (length first) (length set) (ap length same) in absurd cc
        | inr later ↦ of_size-Contains f set later
      ])
    ]

-- ---- the lists from a size on

-- the list of a place has the sets of so many units more than the first list's
abbrev Splits : ℕ → List (List (List ℕ)) → List (List ℕ) → Type 0
Splits from lists f = (k : ℕ) → at_size lists k ≡ of_size (from + k) f

splits_rest : (from : ℕ) (list : List (List ℕ)) (lists : List (List (List ℕ))) (f : List (List ℕ))
    → Splits from (list ∷ lists) f → Splits (suc from) lists f
splits_rest from list lists f splits k = splits (suc k) ∙ ap (λ n. of_size n f) (omega arith)

splits_first : (from : ℕ) (list : List (List ℕ)) (lists : List (List (List ℕ))) (f : List (List ℕ))
    → Splits from (list ∷ lists) f → list ≡ of_size from f
splits_first from list lists f splits = splits 0 ∙ ap (λ n. of_size n f) (omega arith)

splits_all : (lists : List (List (List ℕ))) (f : List (List ℕ)) → ((size : ℕ) → at_size lists size ≡ of_size size f)
    → Splits 0 lists f
splits_all lists f splits k = splits k ∙ ap (λ n. of_size n f) (omega arith)

joined-has : (from : ℕ) (lists : List (List (List ℕ))) (f : List (List ℕ)) (set : List ℕ) → Splits from lists f
    → Contains (joined lists) set → Contains f set × (from ≤ length set)
joined-has from [] f set splits has = Contains-nil set has
joined-has from (list ∷ lists) f set splits has =
    elim (Contains-append_cases list (joined lists) set has) [
      | inl here ↦
          let of =
          Contains-of_size from f set (subst (λ q. Contains q set) (splits_first from list lists f splits) here) in
          (of.0, omega (arith, of.1))
      | inr later ↦
          let of = joined-has (suc from) lists f set (splits_rest from list lists f splits) later in
          (of.0, omega (arith, of.1))
    ]

has-joined : (lists : List (List (List ℕ))) (k : ℕ) (set : List ℕ) → Contains (at_size lists k) set
    → Contains (joined lists) set
has-joined [] k set has = Contains-nil set has
has-joined (list ∷ lists) zero set has = Contains-append_left list (joined lists) set has
has-joined (list ∷ lists) (suc k) set has = Contains-append_right list (joined lists) set (has-joined lists k set has)

-- ---- the order

smaller_first : (a b : List ℕ) → length a < length b → cut_cmp a b ≡ Less
smaller_first a b less =
    let e : nat_cmp (length a) (length b) ≡ Less = grind (arith, nat_tests) in ap (λ o. ordering_then o (set_cmp a b)) e

at_one_size : (a b : List ℕ) → length a ≡ length b → set_cmp a b ≡ Less → cut_cmp a b ≡ Less
at_one_size a b same less =
    ap (λ n. ordering_then (nat_cmp n (length b)) (set_cmp a b)) same
    ∙ ap (λ o. ordering_then o (set_cmp a b)) (tied_itself nat_cmp_total (length b)) ∙ less

below_all : (a : List ℕ) {size : ℕ} (sets : List (List ℕ)) → length a ≡ size
    → AllByRecursion (λ (set : List ℕ). length set ≡ size) sets → AllByRecursion (λ b. set_cmp a b ≡ Less) sets
    → AllByRecursion (λ b. cut_cmp a b ≡ Less) sets
below_all a [] same long less = tt
below_all a (b ∷ sets) same long less =
    (at_one_size a b (same ∙ sym long.0) less.0, below_all a sets same long.1 less.1)

one_size_ordered : (size : ℕ) (sets : List (List ℕ)) → AllByRecursion (λ (set : List ℕ). length set ≡ size) sets
    → IsStrictlySortedBy set_cmp sets → IsInCutOrder sets
unfolding IsStrictlySortedBy
one_size_ordered size [] long sorted = tt
one_size_ordered size (set ∷ sets) long sorted =
    (below_all set sets long.0 long.1 sorted.0, one_size_ordered size sets long.1 sorted.1)

joined-ordered : (from : ℕ) (lists : List (List (List ℕ))) (f : List (List ℕ)) → Splits from lists f
    → IsStrictlySortedBy set_cmp f → IsInCutOrder (joined lists)
unfolding IsStrictlySortedBy
joined-ordered from [] f splits sorted = tt
joined-ordered from (list ∷ lists) f splits sorted =
    let first : list ≡ of_size from f = splits_first from list lists f splits in
    let long : AllByRecursion (λ (set : List ℕ). length set ≡ from) list =
    each-from_contains (λ (set : List ℕ). length set ≡ from) list
    (λ set has. (Contains-of_size from f set (subst (λ q. Contains q set) first has)).1) in
    let longer : AllByRecursion (λ (set : List ℕ). suc from ≤ length set) (joined lists) =
    each-from_contains (λ (set : List ℕ). suc from ≤ length set) (joined lists)
    (λ set has. (joined-has (suc from) lists f set (splits_rest from list lists f splits) has).1) in
    sorted-append cut_cmp list (joined lists)
    (one_size_ordered from list long (subst (IsStrictlySortedBy set_cmp) (sym first)
    (IsStrictlySortedBy-filter set_cmp (λ set. length set == from) f sorted)))
    (joined-ordered (suc from) lists f (splits_rest from list lists f splits) sorted)
    (each-weaker (λ (a : List ℕ). length a ≡ from) (λ a. AllByRecursion (λ b. cut_cmp a b ≡ Less) (joined lists)) list
    (λ a same. each-weaker (λ (b : List ℕ). suc from ≤ length b) (λ b. cut_cmp a b ≡ Less) (joined lists)
    (λ b more. smaller_first a b (omega (arith, same, more))) longer) long)

-- ---- what the sets come to, by a number for each set

-- the sets of at least so many units
abbrev from_size : ℕ → List (List ℕ) → List (List ℕ)
from_size from f = filter (λ set. nat_le from (length set)) f

-- where no size has a set there is none
no_sets : (from : ℕ) (f : List (List ℕ)) → ((k : ℕ) → of_size (from + k) f ≡ []) → from_size from f ≡ []
no_sets from [] none = refl
no_sets from (set ∷ f) none =
    elim (cases_lt (length set) from) [
      | inl short ↦
          let a : nat_le from (length set) ≡ false = grind (arith, nat_tests, short) in
          rw a (no_sets from f (λ k. rw (ne_eqb (length set) (from + k) (λ s. omega (arith, s, short))) at (none k)))
      | inr long ↦
          let so_long : length set ≡ from + (length set - from) = omega (arith, long) in
          absurd (let e = rw (eq-eqb (length set) (from + (length set - from)) so_long) at (none (length set - from)) in
          absurd cc)
    ]

module _ (each : List ℕ → ℕ) where
  abbrev total : List (List ℕ) → ℕ
  total sets = sum_by each sets

  total-append : (f g : List (List ℕ)) → total (f ++ g) ≡ total f + total g
  total-append f g = sum_by-append each f g

  total-cons : (set : List ℕ) (f : List (List ℕ)) → total (set ∷ f) ≡ each set + total f
  total-cons set f = sum_by-cons each set f

  -- what the sets of a size and the longer ones come to
  total-from : (from : ℕ) (f : List (List ℕ)) → total (from_size from f)
      ≡ total (of_size from f) + total (from_size (suc from) f)
  total-from from [] = refl
  total-from from (set ∷ f) =
      let rest = total-from from f in
      let e = total-cons set (from_size from f) in
      elim (cases_lt (length set) from) [
        | inl short ↦
            let a : nat_le from (length set) ≡ false = grind (arith, nat_tests, short) in
            let d : nat_le (suc from) (length set) ≡ false = grind (arith, nat_tests, short) in
            rw (a, ne_eqb (length set) from (λ s. omega (arith, s, short)), d) rest
        | inr long ↦
            let a : nat_le from (length set) ≡ true = grind (arith, nat_tests, long) in
            elim (cases_eq (length set) from) [
              | inl same ↦
                  let d : nat_le (suc from) (length set) ≡ false = grind (arith, nat_tests, same) in
                  rw (a, eq-eqb (length set) from same, d)
                  (omega (arith, rest, e, total-cons set (of_size from f)))
              | inr other ↦
                  let more : suc from ≤ length set = omega (arith, long, other) in
                  let d : nat_le (suc from) (length set) ≡ true = grind (arith, nat_tests, more) in
                  rw (a, ne_eqb (length set) from other, d)
                  (omega (arith, rest, e, total-cons set (from_size (suc from) f)))
            ]
      ]

  total-splits : (from : ℕ) (lists : List (List (List ℕ))) (f : List (List ℕ)) → Splits from lists f
      → total (joined lists) ≡ total (from_size from f)
  total-splits from [] f splits = ap total (sym (no_sets from f (λ k. sym (splits k))))
  total-splits from (list ∷ lists) f splits =
      let a = total-append list (joined lists) in
      let b = ap total (splits_first from list lists f splits) in
      let d = total-splits (suc from) lists f (splits_rest from list lists f splits) in
      let e = total-from from f in
      omega (arith, a, b, d, e)

-- a list has as many elements as ones
length-ones : (f : List (List ℕ)) → length f ≡ sum_by (λ (set : List ℕ). 1) f
length-ones [] = refl
length-ones (set ∷ f) =
    let rest = length-ones f in let e = sum_by-cons (λ (s : List ℕ). 1) set f in omega (arith, rest, e)

filled_set : (f : List (List ℕ)) → LacksEmptySet f → (set : List ℕ) → Contains f set → 0 < length set
filled_set f lacks [] has = absurd (lacks has)
filled_set f lacks (unit ∷ set) has = omega arith

-- ---- where the lists have the sets of each size

module _ (lists : List (List (List ℕ))) (f : List (List ℕ)) (splits : (size : ℕ) → at_size lists size ≡ of_size size f)
  where
    pub joined-sets : HasSetsOf f (joined lists)
    joined-sets set = (
      λ has. (joined-has 0 lists f set (splits_all lists f splits) has).0,
      λ has. has-joined lists (length set) set (subst (λ q. Contains q set) (sym (splits (length set)))
          (of_size-Contains f set has)),
    )

    joined-each : (P : List ℕ → Type 0) → ((set : List ℕ) → Contains f set → P set) → AllByRecursion P (joined lists)
    joined-each P each = each-from_contains P (joined lists) (λ set has. each set ((joined-sets set).0 has))

    pub joined-in_order : IsFamily f → IsInCutOrder (joined lists)
    joined-in_order is = joined-ordered 0 lists f (splits_all lists f splits) is.ordered

    pub joined-rising : IsFamily f → AllByRecursion IsRising (joined lists)
    joined-rising is = joined-each IsRising (λ set has. each-contains IsRising f set is.rising has)

    pub joined-filled : LacksEmptySet f → AllByRecursion (λ (set : List ℕ). 0 < length set) (joined lists)
    joined-filled lacks = joined-each (λ set. 0 < length set) (filled_set f lacks)

    total-joined : (each : List ℕ → ℕ) → sum_by each (joined lists) ≡ sum_by each f
    total-joined each =
        total-splits each 0 lists f (splits_all lists f splits)
        ∙ ap (sum_by each) (filter-all (λ (set : List ℕ). nat_le 0 (length set)) f
        (each-from_contains (λ set. nat_le 0 (length set) ≡ true) f (λ set has. grind (arith, nat_tests))))

    pub weight-joined : weight (joined lists) ≡ weight f
    weight-joined = total-joined (λ set. 1 + length set)

    pub length-joined : length (joined lists) ≡ length f
    length-joined = length-ones (joined lists) ∙ total-joined (λ set. 1) ∙ sym (length-ones f)

-- ---- lists put one after the other

joined-front : (lists : List (List (List ℕ))) (k : ℕ) → joined lists ≡ joined (take k lists) ++ joined (drop k lists)
joined-front lists zero = refl
joined-front [] (suc k) = refl
joined-front (list ∷ lists) (suc k) =
    ap (λ q. list ++ q) (joined-front lists k) ∙ sym (append_assoc list (joined (take k lists)) (joined (drop k lists)))

pub joined-next : (lists : List (List (List ℕ))) (k : ℕ) → k < length lists
    → joined (take (suc k) lists) ≡ joined (take k lists) ++ at_size lists k
joined-next [] k short = absurd (omega arith)
joined-next (list ∷ lists) zero short = append-nil list
joined-next (list ∷ lists) (suc k) short =
    ap (λ q. list ++ q) (joined-next lists k (omega (arith, short)))
    ∙ sym (append_assoc list (joined (take k lists)) (at_size lists k))

part_each : (P : List ℕ → Type 0) (lists : List (List (List ℕ))) (k : ℕ) → k < length lists
    → AllByRecursion P (joined lists) → AllByRecursion P (at_size lists k)
part_each P [] k short all = absurd (omega arith)
part_each P (list ∷ lists) zero short all = each-front P list (joined lists) all
part_each P (list ∷ lists) (suc k) short all =
    part_each P lists k (omega (arith, short)) (each-back P list (joined lists) all)

pub part-each : (P : List ℕ → Type 0) (lists : List (List (List ℕ))) (k : ℕ) {sets : List (List ℕ)} → k < length lists
    → sets ≡ at_size lists k → AllByRecursion P (joined lists) → AllByRecursion P sets
part-each P lists k short is all = subst (AllByRecursion P) (sym is) (part_each P lists k short all)

-- the lists up to a place, with the one that stands there
module _ (lists : List (List (List ℕ))) (k : ℕ) (cuts : List (List ℕ)) {sets : List (List ℕ)}
    (short : k < length lists) (same : cuts ≡ joined (take k lists)) (is : sets ≡ at_size lists k) where
  with_next : cuts ++ sets ≡ joined (take (suc k) lists)
  with_next = rw (same, is) (sym (joined-next lists k short))

  pub part-next : {cuts' : List (List ℕ)} → cuts' ≡ cuts ++ sets → cuts' ≡ joined (take (k + 1) lists)
  part-next added = added ∙ with_next ∙ ap (λ n. joined (take n lists)) (let e : suc k ≡ k + 1 = omega arith in e)

  pub part-ordered : IsInCutOrder (joined lists) → IsInCutOrder (cuts ++ sets)
  part-ordered ordered =
      subst IsInCutOrder (sym with_next) (sorted-front cut_cmp (joined (take (suc k) lists))
      (joined (drop (suc k) lists)) (subst IsInCutOrder (joined-front lists (suc k)) ordered))

  pub part-weight : weight (cuts ++ sets) ≤ weight (joined lists)
  part-weight =
      let a = ap weight with_next in
      let b = ap weight (joined-front lists (suc k)) in
      let d = weight-append (joined (take (suc k) lists)) (joined (drop (suc k) lists)) in
      omega (arith, a, b, d)
