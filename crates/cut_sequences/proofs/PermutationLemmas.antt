-- The permutations of a rising set: exactly the orders of its units, in lexicographic order.
use Rattle.std.proofs.Common.{◌≡◌, ◌≢◌, ℕ, zero, suc, ◌<◌, Bool, true, false, ◌||◌, ◌==◌, List, [], ◌∷◌, ◌++◌, length}
use Rattle.std.proofs.Common.{get_or, map, remove, All, Contains, refl, ap, sym, subst, ◌∙◌, arith, eq-eqb}
use Rattle.std.specs.{Cmp.Lexicographic.slice_cmp, List.flat_map, List.AllByRecursion, List.Sorted.IsStrictlySortedBy}
use Rattle.std.specs.{Ordering.nat_cmp, Ordering.ordering_then, declared.cmp.Ordering.Ordering}
use Rattle.std.specs.{declared.cmp.Ordering.TheVariants.Less}
use Rattle.std.proofs.lemmas.Bool.{both_ways, or_left, false_from_ne_true}
use Rattle.std.proofs.{lemmas.Bool.Decides.nat_tests, lemmas.Cmp.nat_cmp_total, lemmas.Cmp.tied_itself}
use Rattle.std.proofs.{lemmas.List.Kept.AllPairs-cons}
use Rattle.std.proofs.lemmas.List.{get_or-map, length-map, get_or_default}
use Rattle.std.proofs.lemmas.List.Elements.{All-append, All-nil, All-map, All-cons, All-contains, All-from_get_or}
use Rattle.std.proofs.lemmas.List.Elements.{recursion_from_All, Contains-append_left, Contains-append_right}
use Rattle.unit_sets.specs.UnitList.{among, IsRising}
use Rattle.unit_sets.proofs.UnitListLemmas.{Contains-from_among}
use Rattle.fault_model.specs.Order.{AreDistinct}
use Rattle.cut_sequences.specs.Permutations.{picks, arrangements, permutations, IsOrderOf}
use Rattle.cut_sequences.proofs.GoingLemmas.{length-picks, get_or-picks, length-remove, rising_remove, among_at, gone}

-- what begins with the unit of a pick, and goes on with the others
abbrev begun : ℕ → ℕ × List ℕ → List (List ℕ)
begun n pick = map (λ (order : List ℕ). pick.0 ∷ order) (arrangements n pick.1)

-- a fact for each pick, from the fact for each place
all_picks : (P : ℕ × List ℕ → Type 0) (units : List ℕ)
    → ((i : ℕ) → i < length units → P (get_or units i 0, remove units i)) → All P (picks units)
all_picks P units each =
    All-from_get_or P (picks units) (0, []) (λ i short.
    let within : i < length units = omega (arith, length-picks units) in
    subst P (sym (get_or-picks units i (0, []) within)) (each i within))

-- ---- members

all_flat : {X Y : Type 0} (P : Y → Type 0) (f : X → List Y) (xs : List X) → AllByRecursion (λ (x : X). All P (f x)) xs
    → All P (flat_map f xs)
all_flat P f [] all = All-nil P
all_flat P f (x ∷ xs) all = All-append P (f x) (flat_map f xs) all.0 (all_flat P f xs all.1)

either_unit : (units : List ℕ) (i unit : ℕ) → i < length units
    → ((get_or units i 0 == unit) || among (remove units i) unit) ≡ among units unit
either_unit [] i unit short = absurd (omega arith)
either_unit (first ∷ units) zero unit short = refl
either_unit (first ∷ units) (suc i) unit short =
    swap (get_or units i 0 == unit) (first == unit) (among (remove units i) unit)
    ∙ ap (λ b. (first == unit) || b) (either_unit units i unit (omega arith))
  where
    swap : (a b c : Bool) → (a || (b || c)) ≡ (b || (a || c))
    swap true true c = refl
    swap true false c = refl
    swap false b c = refl

-- a list that has not a number has no member like it
none_like : (unit : ℕ) (units : List ℕ) → among units unit ≡ false → All (λ other. unit ≢ other) units
none_like unit units lacks =
    All-from_get_or (λ other. unit ≢ other) units 0 (λ i short same.
    both_ways (among units unit) lacks (subst (λ (u : ℕ). among units u ≡ true) (sym same) (among_at units i short)))

is_order_cons : {units order : List ℕ} (i : ℕ) → IsRising units → i < length units → IsOrderOf (remove units i) order
    → IsOrderOf units (get_or units i 0 ∷ order)
is_order_cons {units} {order} i rising short rest = record {
  distinct =
      AllPairs-cons (λ earlier later. earlier ≢ later) (get_or units i 0) order
      (none_like (get_or units i 0) order (rest.members (get_or units i 0) ∙ gone units i rising short))
      rest.distinct;
  members = λ unit. ap (λ b. (get_or units i 0 == unit) || b) (rest.members unit) ∙ either_unit units i unit short;
}

sound_by : (n : ℕ) (units : List ℕ) → length units ≡ n → IsRising units → All (IsOrderOf units) (arrangements n units)
sound_by zero [] all rising =
    All-cons (IsOrderOf []) [] [] (record {
      distinct = λ i j d less short. absurd (omega arith);
      members =
          λ unit. refl;
    }) (All-nil (IsOrderOf []))
sound_by zero (unit ∷ units) all rising = absurd (omega arith)
sound_by (suc n) units all rising =
    all_flat (IsOrderOf units) (begun n) (picks units)
    (recursion_from_All (λ (pick : ℕ × List ℕ). All (IsOrderOf units) (begun n pick)) (picks units)
    (all_picks (λ (pick : ℕ × List ℕ). All (IsOrderOf units) (begun n pick)) units (λ i short.
    let fewer : length (remove units i) ≡ n = omega (arith, length-remove units i short) in
    All-map (IsOrderOf units) (λ (order : List ℕ). get_or units i 0 ∷ order) (arrangements n (remove units i))
    (λ k d within. is_order_cons i rising short
    (sound_by n (remove units i) fewer (rising_remove units i rising) k d within)))))

pub permutations_sound : (set order : List ℕ) → IsRising set → Contains (permutations set) order → IsOrderOf set order
permutations_sound set order rising has =
    All-contains (IsOrderOf set) (permutations set) order (sound_by (length set) set refl rising) has

-- ---- every order

contains_map : {X Y : Type 0} (f : X → Y) (xs : List X) (x : X) → Contains xs x → Contains (map f xs) (f x)
contains_map f xs x (k, short, at) = (k, omega (arith, length-map xs f), get_or-map f xs k x (f x) short ∙ ap f at)

contains_flat : {X Y : Type 0} (f : X → List Y) (xs : List X) (i : ℕ) (d : X) (y : Y) → i < length xs
    → Contains (f (get_or xs i d)) y → Contains (flat_map f xs) y
contains_flat f [] i d y short has = absurd (omega arith)
contains_flat f (x ∷ xs) zero d y short has = Contains-append_left (f x) (flat_map f xs) y has
contains_flat f (x ∷ xs) (suc i) d y short has =
    Contains-append_right (f x) (flat_map f xs) y (contains_flat f xs i d y (omega arith) has)

distinct_head : (unit : ℕ) (order : List ℕ) → AreDistinct (unit ∷ order) → among order unit ≡ false
distinct_head unit order distinct =
    false_from_ne_true (among order unit) (λ has. twice (Contains-from_among order unit has))
  where
    twice : Contains order unit → ⊥
    twice (k, short, at) = distinct 0 (suc k) unit (omega arith) (omega arith) (sym at)

distinct_tail : (unit : ℕ) (order : List ℕ) → AreDistinct (unit ∷ order) → AreDistinct order
distinct_tail unit order distinct = λ i j d less short. distinct (suc i) (suc j) d (omega arith) (omega arith)

-- without its first unit an order is one of the other units
is_order_tail : {units order : List ℕ} (i : ℕ) {unit : ℕ} → IsRising units → i < length units → get_or units i 0 ≡ unit
    → IsOrderOf units (unit ∷ order) → IsOrderOf (remove units i) order
is_order_tail {units} {order} i {unit} rising short here is = record {
  distinct = distinct_tail unit order is.distinct;
  members = λ other. by other (unit == other) refl;
}
  where
    lacks : among (remove units i) unit ≡ false
    lacks = subst (λ (u : ℕ). among (remove units i) u ≡ false) here (gone units i rising short)

    by : (other : ℕ) (test : Bool) → (unit == other) ≡ test → among order other ≡ among (remove units i) other
    by other true h =
        let same : unit ≡ other = grind (arith, nat_tests) in
        subst (λ (u : ℕ). among order u ≡ among (remove units i) u) same
        (distinct_head unit order is.distinct ∙ sym lacks)
    by other false h =
        sym (ap (λ b. b || among order other) h) ∙ is.members other
        ∙ sym (either_unit units i other short)
        ∙ ap (λ (u : ℕ). (u == other) || among (remove units i) other) here
        ∙ ap (λ b. b || among (remove units i) other) h

complete_by : (n : ℕ) (units order : List ℕ) → length units ≡ n → IsRising units → IsOrderOf units order
    → Contains (arrangements n units) order
complete_by zero [] [] all rising is = (zero, omega arith, refl)
complete_by zero [] (unit ∷ order) all rising is =
    absurd (both_ways (among (unit ∷ order) unit) (is.members unit)
    (or_left (unit == unit) (among order unit) (eq-eqb unit unit refl)))
complete_by zero (unit ∷ units) order all rising is = absurd (omega arith)
complete_by (suc n) [] order all rising is = absurd (omega arith)
complete_by (suc n) (first ∷ units) [] all rising is =
    absurd (both_ways (among (first ∷ units) first) (sym (is.members first))
    (or_left (first == first) (among units first) (eq-eqb first first refl)))
complete_by (suc n) (first ∷ units) (unit ∷ order) all rising is =
    at (Contains-from_among (first ∷ units) unit (sym (is.members unit)
    ∙ or_left (unit == unit) (among order unit) (eq-eqb unit unit refl)))
    (λ i short here. complete_by n (remove (first ∷ units) i) order
    (omega (arith, length-remove (first ∷ units) i short)) (rising_remove (first ∷ units) i rising)
    (is_order_tail i rising short here is))
  where
    at : Contains (first ∷ units) unit → ((i : ℕ) → i < length (first ∷ units) → get_or (first ∷ units) i 0 ≡ unit
        → Contains (arrangements n (remove (first ∷ units) i)) order)
        → Contains (flat_map (begun n) (picks (first ∷ units))) (unit ∷ order)
    at (i, short, is_there) rest =
        let here : get_or (first ∷ units) i 0 ≡ unit = get_or_default (first ∷ units) i 0 unit short ∙ is_there in
        let within : i < length (picks (first ∷ units)) = omega (arith, length-picks (first ∷ units)) in
        contains_flat (begun n) (picks (first ∷ units)) i (0, []) (unit ∷ order) within
        (subst (λ (pick : ℕ × List ℕ). Contains (begun n pick) (unit ∷ order))
        (sym (get_or-picks (first ∷ units) i (0, []) short))
        (subst (λ (u : ℕ). Contains (map (λ (o : List ℕ). u ∷ o) (arrangements n (remove (first ∷ units) i)))
        (unit ∷ order)) (sym here)
        (contains_map (λ (o : List ℕ). unit ∷ o) (arrangements n (remove (first ∷ units) i)) order
        (rest i short here))))

pub permutations_complete : (set order : List ℕ) → IsRising set → IsOrderOf set order
    → Contains (permutations set) order
permutations_complete set order rising is = complete_by (length set) set order refl rising is

-- ---- lexicographic order

abbrev lex : List ℕ → List ℕ → Ordering
lex = slice_cmp nat_cmp

all_append : (P : List ℕ → Type 0) (xs ys : List (List ℕ)) → AllByRecursion P xs → AllByRecursion P ys
    → AllByRecursion P (xs ++ ys)
all_append P [] ys all more = more
all_append P (x ∷ xs) ys all more = (all.0, all_append P xs ys all.1 more)

sorted_append : (xs ys : List (List ℕ)) → IsStrictlySortedBy lex xs → IsStrictlySortedBy lex ys
    → AllByRecursion (λ (x : List ℕ). AllByRecursion (λ (y : List ℕ). lex x y ≡ Less) ys) xs
    → IsStrictlySortedBy lex (xs ++ ys)
unfolding IsStrictlySortedBy
sorted_append [] ys s t below = t
sorted_append (x ∷ xs) ys s t below =
    (all_append (λ (y : List ℕ). lex x y ≡ Less) xs ys s.0 below.0, sorted_append xs ys s.1 t below.1)

below_begun : (unit : ℕ) (order : List ℕ) (orders : List (List ℕ))
    → AllByRecursion (λ (o : List ℕ). lex order o ≡ Less) orders
    → AllByRecursion (λ (o : List ℕ). lex (unit ∷ order) o ≡ Less) (map (λ (o : List ℕ). unit ∷ o) orders)
below_begun unit order [] all = tt
below_begun unit order (o ∷ orders) all = (
  ap (λ (first : Ordering). ordering_then first (lex order o)) (tied_itself nat_cmp_total unit) ∙ all.0,
  below_begun unit order orders all.1,
)

sorted_begun : (unit : ℕ) (orders : List (List ℕ)) → IsStrictlySortedBy lex orders
    → IsStrictlySortedBy lex (map (λ (o : List ℕ). unit ∷ o) orders)
unfolding IsStrictlySortedBy
sorted_begun unit [] s = tt
sorted_begun unit (order ∷ orders) s = (below_begun unit order orders s.0, sorted_begun unit orders s.1)

-- what begins with a smaller unit is below what begins with the unit of a pick
below_pick : (unit : ℕ) (order : List ℕ) (other : ℕ) (orders : List (List ℕ)) → nat_cmp unit other ≡ Less
    → AllByRecursion (λ (o : List ℕ). lex (unit ∷ order) o ≡ Less) (map (λ (o : List ℕ). other ∷ o) orders)
below_pick unit order other [] less = tt
below_pick unit order other (o ∷ orders) less =
    (ap (λ (first : Ordering). ordering_then first (lex order o)) less, below_pick unit order other orders less)

below_picks : (n unit : ℕ) (order : List ℕ) (some : List (ℕ × List ℕ))
    → AllByRecursion (λ (pick : ℕ × List ℕ). nat_cmp unit pick.0 ≡ Less) some
    → AllByRecursion (λ (o : List ℕ). lex (unit ∷ order) o ≡ Less) (flat_map (begun n) some)
below_picks n unit order [] all = tt
below_picks n unit order (pick ∷ some) all =
    all_append (λ (o : List ℕ). lex (unit ∷ order) o ≡ Less) (begun n pick) (flat_map (begun n) some)
    (below_pick unit order pick.0 (arrangements n pick.1) all.0) (below_picks n unit order some all.1)

each_below : (n unit : ℕ) (orders : List (List ℕ)) (some : List (ℕ × List ℕ))
    → AllByRecursion (λ (pick : ℕ × List ℕ). nat_cmp unit pick.0 ≡ Less) some
    → AllByRecursion (λ (x : List ℕ). AllByRecursion (λ (y : List ℕ). lex x y ≡ Less) (flat_map (begun n) some))
    (map (λ (o : List ℕ). unit ∷ o) orders)
each_below n unit [] some all = tt
each_below n unit (order ∷ orders) some all = (below_picks n unit order some all, each_below n unit orders some all)

-- the units of the picks rise
abbrev by_unit : ℕ × List ℕ → ℕ × List ℕ → Ordering
by_unit pick other = nat_cmp pick.0 other.0

abbrev behind : ℕ → ℕ × List ℕ → ℕ × List ℕ
behind unit pick = (pick.0, unit ∷ pick.1)

all_behind : (P : ℕ → Type 0) (unit : ℕ) (some : List (ℕ × List ℕ))
    → AllByRecursion (λ (pick : ℕ × List ℕ). P pick.0) some
    → AllByRecursion (λ (pick : ℕ × List ℕ). P pick.0) (map (behind unit) some)
all_behind P unit [] all = tt
all_behind P unit (pick ∷ some) all = (all.0, all_behind P unit some all.1)

all_units : (P : ℕ → Type 0) (units : List ℕ) → AllByRecursion P units
    → AllByRecursion (λ (pick : ℕ × List ℕ). P pick.0) (picks units)
all_units P [] all = tt
all_units P (unit ∷ units) all = (all.0, all_behind P unit (picks units) (all_units P units all.1))

rise_behind : (unit : ℕ) (some : List (ℕ × List ℕ)) → IsStrictlySortedBy by_unit some
    → IsStrictlySortedBy by_unit (map (behind unit) some)
unfolding IsStrictlySortedBy
rise_behind unit [] s = tt
rise_behind unit (pick ∷ some) s =
    (all_behind (λ (u : ℕ). nat_cmp pick.0 u ≡ Less) unit some s.0, rise_behind unit some s.1)

picks_rise : (units : List ℕ) → IsRising units → IsStrictlySortedBy by_unit (picks units)
unfolding IsStrictlySortedBy
picks_rise [] s = tt
picks_rise (unit ∷ units) s = (
  all_behind (λ (u : ℕ). nat_cmp unit u ≡ Less) unit (picks units)
      (all_units (λ (u : ℕ). nat_cmp unit u ≡ Less) units s.0),
  rise_behind unit (picks units) (picks_rise units s.1),
)

sorted_flat : (n : ℕ) (some : List (ℕ × List ℕ)) → IsStrictlySortedBy by_unit some
    → AllByRecursion (λ (pick : ℕ × List ℕ). IsStrictlySortedBy lex (arrangements n pick.1)) some
    → IsStrictlySortedBy lex (flat_map (begun n) some)
unfolding IsStrictlySortedBy
sorted_flat n [] s all = tt
sorted_flat n (pick ∷ some) s all =
    sorted_append (begun n pick) (flat_map (begun n) some) (sorted_begun pick.0 (arrangements n pick.1) all.0)
    (sorted_flat n some s.1 all.1) (each_below n pick.0 (arrangements n pick.1) some s.0)

sorted_by : (n : ℕ) (units : List ℕ) → length units ≡ n → IsRising units → IsStrictlySortedBy lex (arrangements n units)
unfolding IsStrictlySortedBy
sorted_by zero units all rising = (tt, tt)
sorted_by (suc n) units all rising =
    sorted_flat n (picks units) (picks_rise units rising)
    (recursion_from_All (λ (pick : ℕ × List ℕ). IsStrictlySortedBy lex (arrangements n pick.1)) (picks units)
    (all_picks (λ (pick : ℕ × List ℕ). IsStrictlySortedBy lex (arrangements n pick.1)) units (λ i short.
    sorted_by n (remove units i) (omega (arith, length-remove units i short)) (rising_remove units i rising))))

pub permutations_sorted : (set : List ℕ) → IsRising set → IsStrictlySortedBy (slice_cmp nat_cmp) (permutations set)
permutations_sorted set rising = sorted_by (length set) set refl rising
