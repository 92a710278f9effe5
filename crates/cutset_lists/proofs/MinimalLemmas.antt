-- How the minimal sets of a sorted list are kept, one after another.
use Rattle.std.specs.Prelude.{◌≡◌, ℕ, zero, suc, ◌+◌, ◌<◌, ◌≤◌, Bool, true, false, ◌||◌, nat_lt, ◌==◌, map, List, []}
use Rattle.std.specs.Prelude.{◌∷◌, ◌++◌, length, take, All, Contains, get_or}
use Rattle.std.specs.{List.list_any, List.list_all, List.Sorted.IsStrictlySortedBy, Cmp.Lexicographic.slice_cmp}
use Rattle.std.specs.{Ordering.nat_cmp, Ordering.ordering_then, declared.cmp.Ordering.Ordering}
use Rattle.std.specs.{declared.cmp.Ordering.TheVariants.Less, declared.cmp.Ordering.TheVariants.Greater}
use Rattle.std.proofs.Common.{refl, sym, ◌∙◌, ap, subst, inl, inr, arith}
use Rattle.std.proofs.lemmas.Bool.{or_cases, or_left, or_right, or_from, or_parts, and_parts, and_from, and_left}
use Rattle.std.proofs.lemmas.Bool.{le-ltb, cases_lt}
use Rattle.std.proofs.{lemmas.Bool.Decides.nat_tests, lemmas.List.Folds.list_any-append}
use Rattle.std.proofs.{lemmas.Map.Keys.Less-from_sorted}
use Rattle.std.proofs.lemmas.List.{get_or_default, get_or-take, length-take, length-map, get_or-map}
use Rattle.std.proofs.lemmas.List.Elements.{All-push, All-nil, All-cons, All-weaker, All-contains, recursion_from_All}
use Rattle.std.proofs.lemmas.List.Elements.{Contains-append_left, Contains-push}
use Rattle.unit_sets.specs.CutOrder.{cut_cmp, IsInCutOrder}
use Rattle.unit_sets.proofs.Sorted.{sorted-push}
use Rattle.unit_sets.specs.UnitList.{among, is_within, some_within}
use Rattle.cutset_lists.specs.Sets.{is_smaller_within, IsSortedFrom, IsMinimalFrom}
use Rattle.cutset_lists.proofs.SetLemmas.{some_within-push, some_within-more, next_row}

-- ---- sets within others

pub same_by_test : {a b : ℕ} → (a == b) ≡ true → a ≡ b
same_by_test h = grind (arith, nat_tests)

-- what holds of each unit of a set holds of one
pub all_at : (within : ℕ → Bool) (set : List ℕ) (unit : ℕ) → list_all within set ≡ true → among set unit ≡ true
    → within unit ≡ true
all_at within [] unit all here = absurd cc
all_at within (first ∷ others) unit all here =
    let parts = and_parts (within first) (list_all within others) all in
    elim (or_cases (first == unit) (among others unit) here) [
      | inl same ↦ subst (λ (u : ℕ). within u ≡ true) (same_by_test {a = first} {b = unit} same) parts.0
      | inr later ↦ all_at within others unit parts.1 later
    ]

-- a set within one that lies within lies within too
pub all_within : (within : ℕ → Bool) (set smaller : List ℕ) → list_all within set ≡ true → is_within set smaller ≡ true
    → list_all within smaller ≡ true
all_within within set [] all inside = refl
all_within within set (first ∷ others) all inside =
    let parts = and_parts (among set first) (is_within set others) inside in
    and_from (within first) (list_all within others) (all_at within set first all parts.0)
    (all_within within set others all parts.1)

-- where a list has a smaller set within one, it is true wherever that one lies within
hit_by_smaller : (within : ℕ → Bool) (set : List ℕ) (kept : List (List ℕ))
    → list_any (is_smaller_within set) kept ≡ true → list_all within set ≡ true → some_within kept within ≡ true
hit_by_smaller within set [] found all = absurd cc
hit_by_smaller within set (first ∷ others) found all =
    elim (or_cases (is_smaller_within set first) (list_any (is_smaller_within set) others) found) [
      | inl here ↦ or_left (list_all within first) (some_within others within)
          (all_within within set first all (and_parts (nat_lt (length first) (length set)) (is_within set first)
          here).1)
      | inr later ↦ or_right (list_all within first) (some_within others within)
          (hit_by_smaller within set others later all)
    ]

or_absorbed : (a b : Bool) → (b ≡ true → a ≡ true) → a ≡ (a || b)
or_absorbed true b h = refl
or_absorbed false true h = h refl
or_absorbed false false h = refl

-- ---- sizes in the order of cut lists

greater : (m n : ℕ) → n < m → nat_cmp m n ≡ Greater
greater m n h = grind (arith, nat_tests)

pub size_of_less : (m n : ℕ) (o : Ordering) → ordering_then (nat_cmp m n) o ≡ Less → m ≤ n
size_of_less m n o h =
    elim (cases_lt n m) [
      | inl above ↦ let less : ordering_then Greater o ≡ Less =
          subst (λ q. ordering_then q o ≡ Less) (greater m n above) h in absurd cc
      | inr low ↦ low
    ]

no_larger : (set later : List ℕ) → cut_cmp set later ≡ Less → is_smaller_within set later ≡ false
no_larger set later h =
    and_left (nat_lt (length later) (length set)) (is_within set later)
    (le-ltb (length later) (length set) (size_of_less (length set) (length later) (slice_cmp nat_cmp set later) h))

not_smaller_itself : (set : List ℕ) → is_smaller_within set set ≡ false
not_smaller_itself set =
    and_left (nat_lt (length set) (length set)) (is_within set set) (le-ltb (length set) (length set) (omega arith))

rest_ordered : (first : List ℕ) (others : List (List ℕ)) → IsInCutOrder (first ∷ others) → IsInCutOrder others
unfolding IsStrictlySortedBy
rest_ordered first others ordered = ordered.1

-- from a place on where a set is no smaller, none is
none_from : (set : List ℕ) (sets : List (List ℕ)) → IsInCutOrder sets → (k : ℕ) → k ≤ length sets
    → ((j : ℕ) → k ≤ j → j < length sets → length set ≤ length (get_or sets j []))
    → list_any (is_smaller_within set) (take k sets) ≡ false → list_any (is_smaller_within set) sets ≡ false
none_from set [] ordered k low large none = refl
none_from set (first ∷ others) ordered zero low large none =
    or_from (is_smaller_within set first) (list_any (is_smaller_within set) others)
    (and_left (nat_lt (length first) (length set)) (is_within set first)
    (le-ltb (length first) (length set) (large 0 (omega arith) (omega arith))))
    (none_from set others (rest_ordered first others ordered) 0 (omega arith)
    (λ j above short. large (suc j) (omega arith) (omega arith)) refl)
none_from set (first ∷ others) ordered (suc k) low large none =
    let parts = or_parts (is_smaller_within set first) (list_any (is_smaller_within set) (take k others)) none in
    or_from (is_smaller_within set first) (list_any (is_smaller_within set) others) parts.0
    (none_from set others (rest_ordered first others ordered) k (omega arith)
    (λ j above short. large (suc j) (omega arith) (omega arith)) parts.1)

pub none_larger : (set smaller : List ℕ) (sets : List (List ℕ)) (i : ℕ) → i < length sets → IsInCutOrder sets
    → smaller ≡ get_or sets i [] → length set ≤ length smaller → list_any (is_smaller_within set) (take i sets) ≡ false
    → list_any (is_smaller_within set) sets ≡ false
none_larger set smaller sets i short ordered is large none =
    none_from set sets ordered i (omega arith) (λ j above inside. larger_from j above inside) none
  where
    larger_from : (j : ℕ) → i ≤ j → j < length sets → length set ≤ length (get_or sets j [])
    larger_from j above inside =
        let here : length smaller ≡ length (get_or sets i []) = ap length is in
        elim (cases_lt i j) [
          | inl later ↦
              let less : cut_cmp (get_or sets i []) (get_or sets j []) ≡ Less =
              Less-from_sorted cut_cmp sets i j [] ordered later inside in
              let size : length (get_or sets i []) ≤ length (get_or sets j []) =
              size_of_less (length (get_or sets i [])) (length (get_or sets j []))
              (slice_cmp nat_cmp (get_or sets i []) (get_or sets j [])) less in
              omega arith
          | inr same ↦
              let at : j ≡ i = omega arith in
              let size : length (get_or sets j []) ≡ length (get_or sets i []) =
              ap (λ k. length (get_or sets k [])) at in
              omega arith
        ]

-- ---- one set after another

module _ (sorted : List (List ℕ)) {kept : List (List ℕ)} {set : List ℕ} (i : ℕ) (short : i < length sorted)
    (set_is : set ≡ get_or sorted i []) (ordered : IsInCutOrder sorted)
    (before : IsMinimalFrom (take i sorted) kept) where
  hits_more : (within : ℕ → Bool) → some_within (take (i + 1) sorted) within
      ≡ (some_within kept within || list_all within set)
  hits_more within =
      some_within-more sorted i short set_is within
      ∙ ap (λ b. b || list_all within set) (sym (before.some_within within))

  taken : take (i + 1) sorted ≡ take i sorted ++ set ∷ []
  taken = next_row sorted i short set_is

  members_more : All (Contains (take (i + 1) sorted)) kept
  members_more =
      All-weaker (Contains (take i sorted)) (Contains (take (i + 1) sorted))
      (λ s here. subst (λ (l : List (List ℕ)). Contains l s) (sym taken)
      (Contains-append_left (take i sorted) (set ∷ []) s here)) kept before.members

  below_at : (k : ℕ) {s : List ℕ} → k < i → get_or sorted k s ≡ s → cut_cmp s set ≡ Less
  below_at k {s} lower is =
      let less : cut_cmp (get_or sorted k []) (get_or sorted i []) ≡ Less =
      Less-from_sorted cut_cmp sorted k i [] ordered lower short in
      let same : get_or sorted k [] ≡ s = get_or_default sorted k [] s (omega arith) ∙ is in
      subst (λ (q : List ℕ). cut_cmp q set ≡ Less) same
      (subst (λ (q : List ℕ). cut_cmp (get_or sorted k []) q ≡ Less) (sym set_is) less)

  all_below : All (λ s. cut_cmp s set ≡ Less) kept
  all_below =
      All-weaker (Contains (take i sorted)) (λ s. cut_cmp s set ≡ Less)
      (λ s (k, here, is). let lower : k < i = omega (arith, length-take {A = List ℕ}) in
      below_at k lower (sym (get_or-take i sorted k s lower) ∙ is)) kept before.members

  pub keeps_out : list_any (is_smaller_within set) kept ≡ true → IsMinimalFrom (take (i + 1) sorted) kept
  keeps_out found = record {
    some_within =
        λ within. or_absorbed (some_within kept within) (list_all within set) (hit_by_smaller within set kept found)
        ∙ sym (hits_more within);
    members = members_more;
    ordered = before.ordered;
    sharp = before.sharp;
  }

  still_sharp : (s : List ℕ) → cut_cmp s set ≡ Less → list_any (is_smaller_within s) kept ≡ false
      → list_any (is_smaller_within s) (kept ++ set ∷ []) ≡ false
  still_sharp s below none =
      list_any-append (is_smaller_within s) kept (set ∷ [])
      ∙ or_from _ _ none (or_from _ _ (no_larger s set below) refl)

  pub keeps : list_any (is_smaller_within set) kept ≡ false → IsMinimalFrom (take (i + 1) sorted) (kept ++ set ∷ [])
  keeps none = record {
    some_within = λ within. some_within-push kept set within ∙ sym (hits_more within);
    members =
        All-push (Contains (take (i + 1) sorted)) kept set members_more
        (subst (λ (l : List (List ℕ)). Contains l set) (sym taken) (Contains-push (take i sorted) set));
    ordered =
        sorted-push cut_cmp kept set before.ordered (recursion_from_All (λ s. cut_cmp s set ≡ Less) kept all_below);
    sharp = All-push (λ s. list_any (is_smaller_within s) (kept ++ set ∷ []) ≡ false) kept set
        (λ k d here. still_sharp (get_or kept k d) (all_below k d here) (before.sharp k d here))
        (list_any-append (is_smaller_within set) kept (set ∷ [])
        ∙ or_from _ _ none (or_from _ _ (not_smaller_itself set) refl));
  }

none_ordered : IsInCutOrder []
unfolding IsStrictlySortedBy
none_ordered = tt

pub IsMinimalFrom-none : (sorted : List (List ℕ)) → IsMinimalFrom (take 0 sorted) []
IsMinimalFrom-none sorted = record {
  some_within = λ _. refl;
  members = All-nil _;
  ordered = none_ordered;
  sharp = All-nil _;
}

one_ordered : IsInCutOrder ([] ∷ [])
unfolding IsStrictlySortedBy
one_ordered = (tt, tt)

-- an empty set that comes first stands for all
pub IsMinimalFrom-empty : {sorted kept : List (List ℕ)} → 0 < length sorted → get_or sorted 0 [] ≡ []
    → kept ≡ [] ∷ [] → IsMinimalFrom sorted kept
IsMinimalFrom-empty {sorted} some first is = subst (IsMinimalFrom sorted) (sym is) (record {
  some_within = λ within. sym (go within sorted some first);
  members = All-cons (Contains sorted) [] [] (0, some, first) (All-nil _);
  ordered = one_ordered;
  sharp = All-cons (λ set. list_any (is_smaller_within set) ([] ∷ []) ≡ false) [] [] refl (All-nil _);
})
  where
    go : (within : ℕ → Bool) (l : List (List ℕ)) → 0 < length l → get_or l 0 [] ≡ [] → some_within l within ≡ true
    go within [] none is = absurd (omega arith)
    go within (set ∷ sets) short is =
        ap (λ (s : List ℕ). list_all within s || some_within sets within) is

-- the same, of values as the code has them
pub IsMinimalFrom-emptied : {X : Type 0} (units : X → List ℕ) (cuts : List X) {old : List (List ℕ)}
    (new : List (List ℕ)) (first : X)
    {empty : Bool} → 0 < length cuts → empty ≡ (length (units (get_or cuts 0 first)) == 0) → empty ≡ true → old ≡ []
    → new ≡ old ++ [] ∷ [] → IsMinimalFrom (map units cuts) new
IsMinimalFrom-emptied units cuts new first some empty_is is_empty none pushed =
    IsMinimalFrom-empty (omega (arith, length-map cuts units))
    (get_or-map units cuts 0 first [] some ∙ no_units (units (get_or cuts 0 first)) (sym empty_is ∙ is_empty))
    (pushed ∙ ap (λ (o : List (List ℕ)). o ++ [] ∷ []) none)
  where
    no_units : (set : List ℕ) → (length set == 0) ≡ true → set ≡ []
    no_units [] is = refl
    no_units (unit ∷ units) is =
        let none : length (unit ∷ units) ≡ 0 = same_by_test is in absurd (omega arith)

-- the minimal sets of a sorted list are those of what was sorted
pub IsMinimalFrom-sorted : {sets sorted minimal : List (List ℕ)} → IsSortedFrom sets sorted
    → IsMinimalFrom sorted minimal → IsMinimalFrom sets minimal
IsMinimalFrom-sorted {sets} {sorted} {minimal} from is = record {
  some_within = λ within. is.some_within within ∙ from.some_within within;
  members =
      All-weaker (Contains sorted) (Contains sets) (λ s here. All-contains (Contains sets) sorted s from.members here)
      minimal is.members;
  ordered = is.ordered;
  sharp = is.sharp;
}

-- ---- the steps, of values as the code has them

module _ {X : Type 0} (units : X → List ℕ) (cuts : List X) {kept : List (List ℕ)} (new : List (List ℕ)) {cut : X}
    (i : ℕ)
    (short : i < length cuts) (cut_is : cut ≡ get_or cuts i cut) (ordered : IsInCutOrder (map units cuts))
    (before : IsMinimalFrom (take i (map units cuts)) kept) where
  within_map : i < length (map units cuts)
  within_map = omega (arith, length-map cuts units)

  at_map : units cut ≡ get_or (map units cuts) i []
  at_map = ap units cut_is ∙ sym (get_or-map units cuts i cut [] short)

  pub keeps_out-step : list_any (is_smaller_within (units cut)) kept ≡ true → new ≡ kept
      → IsMinimalFrom (take (i + 1) (map units cuts)) new
  keeps_out-step found same =
      subst (IsMinimalFrom (take (i + 1) (map units cuts))) (sym same)
      (keeps_out (map units cuts) i within_map at_map ordered before found)

  pub keeps-step : list_any (is_smaller_within (units cut)) kept ≡ false → new ≡ kept ++ units cut ∷ []
      → IsMinimalFrom (take (i + 1) (map units cuts)) new
  keeps-step none same =
      subst (IsMinimalFrom (take (i + 1) (map units cuts))) (sym same)
      (keeps (map units cuts) i within_map at_map ordered before none)
