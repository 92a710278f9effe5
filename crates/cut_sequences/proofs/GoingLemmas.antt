-- The search goes through all failing orders of a set.
use Rattle.std.proofs.Common.{◌≡◌, ℕ, zero, suc, ◌+◌, ◌<◌, ◌≤◌, Bool, true, false, ◌&&◌, ◌||◌, ◌==◌, List, [], ◌∷◌}
use Rattle.std.proofs.Common.{◌++◌, length, get_or, take, drop, map, filter, remove, All, is_some, refl, ap, sym, subst}
use Rattle.std.proofs.Common.{inl, inr, ◌∙◌, arith, append-nil, append_assoc, length-append, eq-eqb, if◌then◌else◌}
use Rattle.std.specs.{List.flat_map, List.AllByRecursion, List.Sorted.IsStrictlySortedBy, Ordering.nat_cmp}
use Rattle.std.specs.{declared.cmp.Ordering.TheVariants.Less}
use Rattle.std.proofs.lemmas.Bool.{or_cases, or_left, or_right, false_from_ne_true, both_ways}
use Rattle.std.proofs.{lemmas.Bool.Decides.nat_tests, lemmas.List.Concat.flat_map-append}
use Rattle.std.proofs.{lemmas.List.Folds.length-flat_map-take}
use Rattle.std.proofs.lemmas.List.{map-append, map-id, get_or-map, length-map, take_more, take_all}
use Rattle.std.proofs.lemmas.List.Elements.{filter-append, All-from_get_or, recursion_from_All, All-get_or, All-append}
use Rattle.std.proofs.lemmas.List.Elements.{All-take, All-drop}
use Rattle.unit_sets.specs.UnitList.{among, IsRising}
use Rattle.fault_definitions.specs.{Tree.FaultTree, Tree.IsUnitOf, WellFormed.IsTree, FailingOrder.is_admissible}
use Rattle.fault_definitions.specs.{FailingOrder.is_failing, Step.step}
use Rattle.replay_semantics.specs.Replayed.{Replayed}
use Rattle.replay_semantics.proofs.{Places.among-append, AdmissionLaws.admissible_before}
use Rattle.cut_sequences.specs.{declared.refusal.OrderEnd.OrderEnd, declared.search.Search.Search}
use Rattle.cut_sequences.specs.Orders.{failing_orders, order_limit, IsOver}
use Rattle.cut_sequences.proofs.ListLemmas.{IsOver-more}
use Rattle.cut_sequences.specs.Permutations.{picks, arrangements, permutations}
use Rattle.cut_sequences.specs.Going.{CanGoOn, failing_from, failing_after, CanSearch, IsBack, due}

-- ---- the member of a place, and the others

pub length-picks : (units : List ℕ) → length (picks units) ≡ length units
length-picks [] = refl
length-picks (unit ∷ units) = ap suc (length-map (picks units) _ ∙ length-picks units)

pub get_or-picks : (units : List ℕ) (i : ℕ) (d : ℕ × List ℕ) → i < length units
    → get_or (picks units) i d ≡ (get_or units i 0, remove units i)
get_or-picks [] i d short = absurd (omega arith)
get_or-picks (unit ∷ units) zero d short = refl
get_or-picks (unit ∷ units) (suc i) d short =
    let below : i < length units = omega arith in
    let all : i < length (picks units) = omega (arith, length-picks units) in
    get_or-map (λ (pick : ℕ × List ℕ). (pick.0, unit ∷ pick.1)) (picks units) i d d all
    ∙ ap (λ (pick : ℕ × List ℕ). (pick.0, unit ∷ pick.1)) (get_or-picks units i d below)

pub length-remove : (units : List ℕ) (i : ℕ) → i < length units → suc (length (remove units i)) ≡ length units
length-remove [] i short = absurd (omega arith)
length-remove (unit ∷ units) zero short = refl
length-remove (unit ∷ units) (suc i) short = ap suc (length-remove units i (omega arith))

all_remove : (P : ℕ → Type 0) (units : List ℕ) (i : ℕ) → AllByRecursion P units → AllByRecursion P (remove units i)
all_remove P [] zero all = tt
all_remove P [] (suc i) all = tt
all_remove P (unit ∷ units) zero all = all.1
all_remove P (unit ∷ units) (suc i) all = (all.0, all_remove P units i all.1)

pub rising_remove : (units : List ℕ) (i : ℕ) → IsRising units → IsRising (remove units i)
unfolding IsStrictlySortedBy
rising_remove [] zero rising = tt
rising_remove [] (suc i) rising = tt
rising_remove (unit ∷ units) zero rising = rising.1
rising_remove (unit ∷ units) (suc i) rising =
    (all_remove (λ y. nat_cmp unit y ≡ Less) units i rising.0, rising_remove units i rising.1)

among_remove : (units : List ℕ) (i unit : ℕ) → among (remove units i) unit ≡ true → among units unit ≡ true
among_remove [] zero unit has = has
among_remove [] (suc i) unit has = has
among_remove (first ∷ units) zero unit has = or_right (first == unit) (among units unit) has
among_remove (first ∷ units) (suc i) unit has =
    elim (or_cases (first == unit) (among (remove units i) unit) has) [
      | inl here ↦ or_left (first == unit) (among units unit) here
      | inr later ↦ or_right (first == unit) (among units unit) (among_remove units i unit later)
    ]

pub among_at : (units : List ℕ) (i : ℕ) → i < length units → among units (get_or units i 0) ≡ true
among_at [] i short = absurd (omega arith)
among_at (first ∷ units) zero short = or_left (first == first) (among units first) (eq-eqb first first refl)
among_at (first ∷ units) (suc i) short =
    or_right (first == get_or units i 0) (among units (get_or units i 0)) (among_at units i (omega arith))

-- what is above a number has not that number among it
none_below : (unit : ℕ) (units : List ℕ) → AllByRecursion (λ y. nat_cmp unit y ≡ Less) units → among units unit ≡ false
none_below unit [] all = refl
none_below unit (first ∷ units) all = other (first == unit) refl all.0 (none_below unit units all.1)
  where
    other : (test : Bool) → (first == unit) ≡ test → nat_cmp unit first ≡ Less → among units unit ≡ false
        → ((first == unit) || among units unit) ≡ false
    other true h less rest = absurd (grind (arith, nat_tests))
    other false h less rest = ap (λ b. b || among units unit) h ∙ rest

at_of : (P : ℕ → Type 0) (units : List ℕ) (i : ℕ) → AllByRecursion P units → i < length units → P (get_or units i 0)
at_of P [] i all short = absurd (omega arith)
at_of P (unit ∷ units) zero all short = all.0
at_of P (unit ∷ units) (suc i) all short = at_of P units i all.1 (omega arith)

-- without the unit of a place that unit is not among those that rise
pub gone : (units : List ℕ) (i : ℕ) → IsRising units → i < length units
    → among (remove units i) (get_or units i 0) ≡ false
unfolding IsStrictlySortedBy
gone [] i rising short = absurd (omega arith)
gone (first ∷ units) zero rising short = none_below first units rising.0
gone (first ∷ units) (suc i) rising short =
    let below : i < length units = omega arith in
    let less : nat_cmp first (get_or units i 0) ≡ Less = at_of (λ y. nat_cmp first y ≡ Less) units i rising.0 below in
    other (first == get_or units i 0) refl less (gone units i rising.1 below)
  where
    other : (test : Bool) → (first == get_or units i 0) ≡ test → nat_cmp first (get_or units i 0) ≡ Less
        → among (remove units i) (get_or units i 0) ≡ false
        → ((first == get_or units i 0) || among (remove units i) (get_or units i 0)) ≡ false
    other true h less rest = absurd (grind (arith, nat_tests))
    other false h less rest = ap (λ b. b || among (remove units i) (get_or units i 0)) h ∙ rest

-- ---- one unit more

pub fresh_at : {tree : FaultTree} {order left : List ℕ} (i : ℕ) → CanGoOn tree order left → i < length left
    → among order (get_or left i 0) ≡ false
fresh_at {left} i can short = can.apart (get_or left i 0) (among_at left i short)

pub can_go_on_after : {tree : FaultTree} {order left : List ℕ} (i : ℕ) → CanGoOn tree order left → i < length left
    → CanGoOn tree (order ++ get_or left i 0 ∷ []) (remove left i)
can_go_on_after {tree} {order} {left} i can short = record {
  kept = can.kept;
  rising = rising_remove left i can.rising;
  units =
      All-append (IsUnitOf tree) (take i left) (drop (suc i) left) (All-take (IsUnitOf tree) i left can.units)
      (All-drop (IsUnitOf tree) (suc i) left can.units);
  apart = λ unit has.
      among-append order (get_or left i 0 ∷ []) unit
      ∙ ap (λ b. b || ((get_or left i 0 == unit) || false)) (can.apart unit (among_remove left i unit has))
      ∙ other unit has (get_or left i 0 == unit) refl;
}
  where
    other : (unit : ℕ) → among (remove left i) unit ≡ true → (test : Bool) → (get_or left i 0 == unit) ≡ test
        → ((get_or left i 0 == unit) || false) ≡ false
    other unit has true h =
        let same : get_or left i 0 ≡ unit = grind (arith, nat_tests) in
        let lacks : among (remove left i) unit ≡ false =
        subst (λ (u : ℕ). among (remove left i) u ≡ false) same (gone left i can.rising short) in
        absurd cc
    other unit has false h = ap (λ b. b || false) h

pub can_start : {tree : FaultTree} {set : List ℕ} → IsTree tree → IsRising set → All (IsUnitOf tree) set
    → CanGoOn tree [] set
can_start kept rising units = record { kept = kept; rising = rising; units = units; apart = λ unit has. refl }

-- ---- the failing orders, by the unit that fails next

front_after : (order : List ℕ) (unit : ℕ) (rests : List (List ℕ))
    → map (λ (rest : List ℕ). order ++ rest) (map (λ (rest : List ℕ). unit ∷ rest) rests)
    ≡ map (λ (rest : List ℕ). (order ++ unit ∷ []) ++ rest) rests
front_after order unit [] = refl
front_after order unit (rest ∷ rests) =
    ap (λ (first : List ℕ). first ∷ map (λ (r : List ℕ). order ++ r) (map (λ (r : List ℕ). unit ∷ r) rests))
    (sym (append_assoc order (unit ∷ []) rest))
    ∙ ap (λ (others : List (List ℕ)). ((order ++ unit ∷ []) ++ rest) ∷ others) (front_after order unit rests)

-- the failing orders that begin so and go on with one of the picks
abbrev pub failing_pick : FaultTree → List ℕ → ℕ × List ℕ → List (List ℕ)
failing_pick tree order pick = failing_from tree (order ++ pick.0 ∷ []) pick.1

by_picks : (tree : FaultTree) (order : List ℕ) (n : ℕ) (some : List (ℕ × List ℕ))
    → AllByRecursion (λ (pick : ℕ × List ℕ). length pick.1 ≡ n) some
    → filter (is_failing tree) (map (λ (rest : List ℕ). order ++ rest)
    (flat_map (λ (pick : ℕ × List ℕ). map (λ (rest : List ℕ). pick.0 ∷ rest) (arrangements n pick.1)) some))
    ≡ flat_map (failing_pick tree order) some
by_picks tree order n [] all = refl
by_picks tree order n (pick ∷ some) all =
    let rests : List (List ℕ) = arrangements n pick.1 in
    let others : List (List ℕ) =
    flat_map (λ (p : ℕ × List ℕ). map (λ (rest : List ℕ). p.0 ∷ rest) (arrangements n p.1)) some in
    ap (filter (is_failing tree)) (map-append (λ (rest : List ℕ). order ++ rest)
    (map (λ (rest : List ℕ). pick.0 ∷ rest) rests) others)
    ∙ filter-append (is_failing tree) (map (λ (rest : List ℕ). order ++ rest)
    (map (λ (rest : List ℕ). pick.0 ∷ rest) rests)) (map (λ (rest : List ℕ). order ++ rest) others)
    ∙ ap (λ (l : List (List ℕ)). filter (is_failing tree) l
    ++ filter (is_failing tree) (map (λ (rest : List ℕ). order ++ rest) others)) (front_after order pick.0 rests)
    ∙ ap (λ m. filter (is_failing tree) (map (λ (rest : List ℕ). (order ++ pick.0 ∷ []) ++ rest)
    (arrangements m pick.1)) ++ filter (is_failing tree) (map (λ (rest : List ℕ). order ++ rest) others))
    (sym all.0)
    ∙ ap (λ (l : List (List ℕ)). failing_pick tree order pick ++ l) (by_picks tree order n some all.1)

pub failing_from-next : (tree : FaultTree) (order left : List ℕ) → 0 < length left
    → failing_from tree order left ≡ flat_map (failing_pick tree order) (picks left)
failing_from-next tree order [] some = absurd (omega arith)
failing_from-next tree order (unit ∷ units) some =
    by_picks tree order (length units) (picks (unit ∷ units))
    (recursion_from_All (λ (pick : ℕ × List ℕ). length pick.1 ≡ length units) (picks (unit ∷ units))
    (All-from_get_or (λ (pick : ℕ × List ℕ). length pick.1 ≡ length units) (picks (unit ∷ units)) (0, []) (λ i short.
    let within : i < length (unit ∷ units) = omega (arith, length-picks (unit ∷ units)) in
    let fewer : length (remove (unit ∷ units) i) ≡ length units =
    omega (arith, length-remove (unit ∷ units) i within) in
    subst (λ (pick : ℕ × List ℕ). length pick.1 ≡ length units) (sym (get_or-picks (unit ∷ units) i (0, []) within))
    fewer)))

pub failing_from-start : (tree : FaultTree) (set : List ℕ) → failing_from tree [] set ≡ failing_orders tree set
failing_from-start tree set = ap (filter (is_failing tree)) (map-id (permutations set))

-- ---- where the units so far cannot fail one after another

none_of : {X Y : Type 0} (f : X → List Y) (xs : List X) (d : X) → ((i : ℕ) → i < length xs → f (get_or xs i d) ≡ [])
    → flat_map f xs ≡ []
none_of f [] d each = refl
none_of f (x ∷ xs) d each =
    ap (λ (l : List _). l ++ flat_map f xs) (each 0 (omega arith))
    ∙ none_of f xs d (λ i short. each (suc i) (omega arith))

pruned_by : (n : ℕ) {tree : FaultTree} {order : List ℕ} (left : List ℕ) → length left ≡ n → CanGoOn tree order left
    → is_admissible tree order ≡ false → failing_from tree order left ≡ []
pruned_by zero {tree} {order} [] all can lacks =
    ap (λ (o : List ℕ). if is_failing tree o then o ∷ [] else []) (append-nil order)
    ∙ ap (λ b. if b && is_some (step tree order tree.top) then order ∷ [] else []) lacks
pruned_by zero (unit ∷ units) all can lacks = absurd (omega arith)
pruned_by (suc n) [] all can lacks = absurd (omega arith)
pruned_by (suc n) {tree} {order} (unit ∷ units) all can lacks =
    failing_from-next tree order (unit ∷ units) (omega arith)
    ∙ none_of (failing_pick tree order) (picks (unit ∷ units)) (0, []) (λ i short.
    let within : i < length (unit ∷ units) = omega (arith, length-picks (unit ∷ units)) in
    let next : ℕ = get_or (unit ∷ units) i 0 in
    let longer : is_admissible tree (order ++ next ∷ []) ≡ false =
    false_from_ne_true (is_admissible tree (order ++ next ∷ [])) (λ yes.
    both_ways (is_admissible tree order) lacks (admissible_before tree can.kept order next
    (fresh_at i can within) yes)) in
    ap (failing_pick tree order) (get_or-picks (unit ∷ units) i (0, []) within)
    ∙ pruned_by n (remove (unit ∷ units) i)
    (omega (arith, length-remove (unit ∷ units) i within)) (can_go_on_after i can within) longer)

pub pruned : {tree : FaultTree} {order left : List ℕ} → CanGoOn tree order left → is_admissible tree order ≡ false
    → failing_from tree order left ≡ []
pruned {left} can lacks = pruned_by (length left) left refl can lacks

-- ---- the units that are left, one after another

-- the failing orders by the units of the first places
abbrev pub failing_below : FaultTree → List ℕ → List ℕ → ℕ → List (List ℕ)
failing_below tree order left i = flat_map (failing_pick tree order) (take i (picks left))

pub failing_below-more : (tree : FaultTree) (order left : List ℕ) (i : ℕ) → i < length left
    → failing_below tree order left (i + 1) ≡ failing_below tree order left i ++ failing_after tree order left i
failing_below-more tree order left i short =
    let within : i < length (picks left) = omega (arith, length-picks left) in
    ap (flat_map (failing_pick tree order)) (take_more (picks left) i (0, []) within)
    ∙ flat_map-append (failing_pick tree order) (take i (picks left)) (get_or (picks left) i (0, []) ∷ [])
    ∙ ap (λ (l : List (List ℕ)). failing_below tree order left i ++ l)
    (append-nil (failing_pick tree order (get_or (picks left) i (0, [])))
    ∙ ap (failing_pick tree order) (get_or-picks left i (0, []) short))

pub failing_below-all : (tree : FaultTree) (order left : List ℕ) → 0 < length left
    → failing_below tree order left (length left) ≡ failing_from tree order left
failing_below-all tree order left some =
    ap (flat_map (failing_pick tree order)) (take_all (length left) (picks left) (omega (arith, length-picks left)))
    ∙ sym (failing_from-next tree order left some)

-- those of one place and of the places before it are no more than all
pub failing_below-le : (tree : FaultTree) (order left : List ℕ) (i : ℕ) → i < length left
    → length (failing_below tree order left i) + length (failing_after tree order left i)
    ≤ length (failing_from tree order left)
failing_below-le tree order left i short =
    let within : i < length (picks left) = omega (arith, length-picks left) in
    let one : failing_pick tree order (get_or (picks left) i (0, [])) ≡ failing_after tree order left i =
    ap (failing_pick tree order) (get_or-picks left i (0, []) short) in
    omega (
      arith,
      length-flat_map-take (failing_pick tree order) (picks left) i (0, []) within,
      ap length one,
      ap length (failing_from-next tree order left (omega arith)),
    )

-- ---- the search itself, one place after another

-- the failing orders where the unit of a place fails next, and those of all places before it
abbrev pub due_at : Search → ℕ → List (List ℕ)
due_at search i = failing_after search.replay.tree search.replay.order search.left.items i

abbrev pub due_below : Search → ℕ → List (List ℕ)
due_below search i = failing_below search.replay.tree search.replay.order search.left.items i

-- the search went through the units of so many places
pub record HasGone (before now : Search) (i : ℕ) : Type 0 where
  pub back : IsBack before now before.left.items
  pub few : length now.orders ≤ order_limit
  pub listed : now.orders ≡ before.orders ++ due_below before i

pub gone_all : {before now : Search} {i : ℕ} → HasGone before now i → 0 < length before.left.items
    → i ≡ length before.left.items → now.orders ≡ before.orders ++ due before before.left.items
gone_all {before} gone some all =
    gone.listed ∙ ap (λ n. before.orders ++ due_below before n) all
    ∙ ap (λ (l : List (List ℕ)). before.orders ++ l)
    (failing_below-all before.replay.tree before.replay.order before.left.items some)

module _ {before now : Search} {i : ℕ} (gone : HasGone before now i) (short : i < length before.left.items) where
  same_due : due_at now i ≡ due_at before i
  same_due =
      ap (λ (r : Replayed). failing_after r.tree r.order now.left.items i) gone.back.replay
      ∙ ap (λ (l : List ℕ). failing_after before.replay.tree before.replay.order l i) gone.back.left

  pub can_still : CanSearch before before.left.items → CanSearch now now.left.items
  can_still can = record {
    units =
        subst (λ (r : Replayed). CanGoOn r.tree r.order now.left.items) (sym gone.back.replay)
        (subst (CanGoOn before.replay.tree before.replay.order) (sym gone.back.left) can.units);
    few = gone.few;
  }

  pub gone_more : {after : Search} → IsBack now after now.left.items → after.orders ≡ now.orders ++ due_at now i
      → length after.orders ≤ order_limit → HasGone before after (i + 1)
  gone_more back more few = record {
    back = record { replay = back.replay ∙ gone.back.replay; left = back.left ∙ gone.back.left };
    few = few;
    listed =
        more ∙ ap (λ (l : List (List ℕ)). l ++ due_at now i) gone.listed
        ∙ ap (λ (l : List (List ℕ)). (before.orders ++ due_below before i) ++ l) same_due
        ∙ append_assoc before.orders (due_below before i) (due_at before i)
        ∙ ap (λ (l : List (List ℕ)). before.orders ++ l)
        (sym (failing_below-more before.replay.tree before.replay.order before.left.items i short));
  }

  pub gone_over : (end : OrderEnd) → IsOver (length now.orders + length (due_at now i)) end
      → IsOver (length before.orders + length (due before before.left.items)) end
  gone_over end over =
      IsOver-more (length now.orders + length (due_at now i))
      (length before.orders + length (due before before.left.items)) end (omega (
        arith,
        ap length gone.listed,
        length-append before.orders (due_below before i),
        ap length same_due,
        failing_below-le before.replay.tree before.replay.order before.left.items i short,
      )) over

-- ---- the unit of a place fails, and is taken back

module _ {search : Search} (i : ℕ) {unit : ℕ} (can : CanSearch search search.left.items)
    (short : i < length search.left.items) (is : unit ≡ get_or search.left.items i 0) where
  pub is_unit : IsUnitOf search.replay.tree unit
  is_unit =
      subst (IsUnitOf search.replay.tree) (sym is) (All-get_or (IsUnitOf search.replay.tree) search.left.items i 0 short
      can.units.units)

  pub is_fresh : among search.replay.order unit ≡ false
  is_fresh =
      subst (λ (u : ℕ). among search.replay.order u ≡ false) (sym is) (fresh_at i can.units short)

  module _ (next : Search) (tree : next.replay.tree ≡ search.replay.tree)
      (order : next.replay.order ≡ search.replay.order ++ unit ∷ [])
      (left : next.left.items ≡ remove search.left.items i) where
    pub can_next : length next.orders ≤ order_limit → CanSearch next next.left.items
    can_next few = record {
      units =
          rw (tree, order, left, is) (can_go_on_after i can.units short);
      few = few;
    }

    pub due_next : due next next.left.items ≡ due_at search i
    due_next = rw (tree, order, left, is) refl
