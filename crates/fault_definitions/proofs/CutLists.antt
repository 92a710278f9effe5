-- A tree has a cut list: all sets of its units are tried, and the minimal cuts among them put into order.
use Rattle.std.specs.Prelude.{◌≡◌, ◌⊎◌, ℕ, zero, suc, Bool, true, false, not, ◌&&◌, List, [], ◌∷◌, ◌++◌, map, All}
use Rattle.std.specs.Prelude.{Contains, if◌then◌else◌}
use Rattle.std.specs.{Cmp.IsTotalOrder, List.list_all, List.AllByRecursion, List.Sorted.IsStrictlySortedBy}
use Rattle.std.specs.{declared.cmp.Ordering.Ordering}
use Rattle.std.specs.declared.cmp.Ordering.TheVariants.{Less, Equal, Greater}
use Rattle.std.proofs.Common.{refl, sym, ◌∙◌, ap, subst, inl, inr}
use Rattle.std.proofs.lemmas.Bool.{and_parts, and_from, cond_both, false≢true, not_from_false}
use Rattle.std.proofs.lemmas.List.Elements.{All-nil, All-cons, All-head, All-tail, All-weaker, All-contains}
use Rattle.std.proofs.lemmas.List.Elements.{All-contains_itself, Contains-append_left, Contains-append_right}
use Rattle.unit_sets.specs.CutOrder.{IsInCutOrder, cut_cmp, cut_cmp_total}
use Rattle.unit_sets.proofs.{CutOrderLemmas.cut_cmp-same, UnitListLemmas.same_set, UnitListLemmas.Contains-from_among}
use Rattle.unit_sets.proofs.Sorted.{Contains-nil, Contains-cons_cases, Contains-cons_first, Contains-cons_other}
use Rattle.unit_sets.specs.UnitList.{among, with_unit, without_unit, IsRising}
use Rattle.fault_definitions.specs.{Cut.IsMinimalCut, Cut.IsCutList, Reading.reads}
use Rattle.fault_definitions.proofs.MinimalCuts.{passing, passing-none, passing-more, passing_rises, passing_to}
use Rattle.fault_definitions.proofs.MinimalCuts.{passing_from}
use Rattle.fault_definitions.proofs.MinimalCuts.{units_of_all}
use Rattle.fault_definitions.specs.Tree.{FaultTree, IsUnitOf, unit_count}

-- ---- a member put into its place in a list in strict order

module _ {K : Type 0} (R : K → K → Ordering) where
  by_order : Ordering → K → K → List K → List K → List K
  by_order Less k x xs put = k ∷ x ∷ xs
  by_order Equal k x xs put = x ∷ xs
  by_order Greater k x xs put = x ∷ put

  put : K → List K → List K
  put k [] = k ∷ []
  put k (x ∷ xs) = by_order (R k x) k x xs (put k xs)

module _ {K : Type 0} {R : K → K → Ordering} (o : IsTotalOrder R) (only_equal : (x y : K) → R x y ≡ Equal → x ≡ y) where
  all_put : (P : K → Type 0) (k : K) (xs : List K) → P k → AllByRecursion P xs → AllByRecursion P (put R k xs)
  unfolding put by_order
  all_put P k [] one all = (one, tt)
  all_put P k (x ∷ xs) one all = by (all_put P k xs one all.1) (R k x)
    where
      by : AllByRecursion P (put R k xs) → (found : Ordering) → AllByRecursion P (by_order R found k x xs (put R k xs))
      by rest Less = (one, all)
      by rest Equal = all
      by rest Greater = (all.0, rest)

  below_rest : (k x : K) (xs : List K) → R k x ≡ Less → AllByRecursion (λ y. R x y ≡ Less) xs
      → AllByRecursion (λ y. R k y ≡ Less) xs
  below_rest k x [] less all = tt
  below_rest k x (y ∷ ys) less all = (o.trans k x y less all.0, below_rest k x ys less all.1)

  above : (k x : K) → R k x ≡ Greater → R x k ≡ Less
  above k x greater = let e = o.antisymm x k in cc

  put_sorted : (k : K) (xs : List K) → IsStrictlySortedBy R xs → IsStrictlySortedBy R (put R k xs)
  unfolding put by_order IsStrictlySortedBy
  put_sorted k [] s = (tt, tt)
  put_sorted k (x ∷ xs) s = by (put_sorted k xs s.1) (R k x) refl
    where
      by : IsStrictlySortedBy R (put R k xs) → (found : Ordering) → R k x ≡ found
          → IsStrictlySortedBy R (by_order R found k x xs (put R k xs))
      by rest Less is = ((is, below_rest k x xs is s.0), s)
      by rest Equal is = s
      by rest Greater is = (all_put (λ y. R x y ≡ Less) k xs (above k x is) s.0, rest)

  put_has : (k : K) (xs : List K) → Contains (put R k xs) k
  unfolding put by_order
  put_has k [] = Contains-cons_first k []
  put_has k (x ∷ xs) = by (put_has k xs) (R k x) refl
    where
      by : Contains (put R k xs) k → (found : Ordering) → R k x ≡ found
          → Contains (by_order R found k x xs (put R k xs)) k
      by rest Less is = Contains-cons_first k (x ∷ xs)
      by rest Equal is = subst (λ q. Contains (x ∷ xs) q) (sym (only_equal k x is)) (Contains-cons_first x xs)
      by rest Greater is = Contains-cons_other x k (put R k xs) rest

  put_keeps : (k z : K) (xs : List K) → Contains xs z → Contains (put R k xs) z
  unfolding put by_order
  put_keeps k z [] has = Contains-nil z has
  put_keeps k z (x ∷ xs) has = by (put_keeps k z xs) (R k x)
    where
      by : (Contains xs z → Contains (put R k xs) z) → (found : Ordering)
          → Contains (by_order R found k x xs (put R k xs)) z
      by rest Less = Contains-cons_other k z (x ∷ xs) has
      by rest Equal = has
      by rest Greater = elim (Contains-cons_cases x z xs has) [
        | inl same ↦ subst (λ q. Contains (x ∷ put R k xs) q) same (Contains-cons_first x (put R k xs))
        | inr later ↦ Contains-cons_other x z (put R k xs) (rest later)
      ]

  put_from : (k z : K) (xs : List K) → Contains (put R k xs) z → (k ≡ z) ⊎ Contains xs z
  unfolding put by_order
  put_from k z [] has = Contains-cons_cases k z [] has
  put_from k z (x ∷ xs) has = by (put_from k z xs) (R k x) has
    where
      by : (Contains (put R k xs) z → (k ≡ z) ⊎ Contains xs z) → (found : Ordering)
          → Contains (by_order R found k x xs (put R k xs)) z → (k ≡ z) ⊎ Contains (x ∷ xs) z
      by rest Less at = Contains-cons_cases k z (x ∷ xs) at
      by rest Equal at = inr at
      by rest Greater at = elim (Contains-cons_cases x z (put R k xs) at) [
        | inl same ↦ inr (subst (λ q. Contains (x ∷ xs) q) same (Contains-cons_first x xs))
        | inr later ↦ elim (rest later) [
          | inl is ↦ inl is
          | inr old ↦ inr (Contains-cons_other x z xs old)
        ]
      ]

same_Bool : (a b : Bool) → (a ≡ true → b ≡ true) → (b ≡ true → a ≡ true) → a ≡ b
same_Bool true b to from = sym (to refl)
same_Bool false true to from = from refl
same_Bool false false to from = refl

true_not : (a : Bool) → not a ≡ true → a ≡ false
true_not true h = sym h
true_not false h = refl

none_in_order : IsInCutOrder []
unfolding IsStrictlySortedBy
none_in_order = tt

-- ---- all sets of units up to a number

sets_to : ℕ → List (List ℕ)
sets_to zero = [] ∷ []
sets_to (suc most) = sets_to most ++ map (with_unit (suc most)) (sets_to most)

mapped : (f : List ℕ → List ℕ) (sets : List (List ℕ)) (set : List ℕ) → Contains sets set → Contains (map f sets) (f set)
mapped f [] set has = Contains-nil set has
mapped f (first ∷ others) set has =
    elim (Contains-cons_cases first set others has) [
      | inl same ↦ subst (λ q. Contains (f first ∷ map f others) (f q)) same
          (Contains-cons_first (f first) (map f others))
      | inr later ↦ Contains-cons_other (f first) (f set) (map f others) (mapped f others set later)
    ]

-- whatever passes a test is one of them
has_passing : (test : ℕ → Bool) (most : ℕ) → Contains (sets_to most) (passing test most)
unfolding sets_to
has_passing test zero = subst (Contains ([] ∷ [])) (sym (passing-none test)) (Contains-cons_first [] [])
has_passing test (suc most) =
    subst (Contains (sets_to most ++ map (with_unit (suc most)) (sets_to most))) (sym (passing-more test most))
    (cond_both (test (suc most)) (with_unit (suc most) (passing test most)) (passing test most)
    (Contains (sets_to most ++ map (with_unit (suc most)) (sets_to most)))
    (λ _. Contains-append_right (sets_to most) (map (with_unit (suc most)) (sets_to most)) _
    (mapped (with_unit (suc most)) (sets_to most) (passing test most) (has_passing test most)))
    (λ _. Contains-append_left (sets_to most) (map (with_unit (suc most)) (sets_to most)) _ (has_passing test most)))

-- ---- the minimal ones among them, in order

module _ (tree : FaultTree) where
  -- the units of the tree in a set
  abbrev units_in : List ℕ → List ℕ
  units_in set = passing (among set) (unit_count tree)

  abbrev is_minimal : List ℕ → Bool
  is_minimal set =
      reads tree (among set) tree.top && list_all (λ member.
      not (reads tree (among (without_unit member set)) tree.top)) set

  least_of : List (List ℕ) → List (List ℕ)
  least_of [] = []
  least_of (set ∷ sets) =
      if is_minimal (units_in set) then put cut_cmp (units_in set) (least_of sets) else least_of sets

  -- the top event does not fail without the member
  abbrev lives : List ℕ → ℕ → Type 0
  lives set member = reads tree (among (without_unit member set)) tree.top ≡ false

  needed_from : (set members : List ℕ) → list_all
      (λ member. not (reads tree (among (without_unit member set)) tree.top)) members ≡ true
      → All (λ member. lives set member) members
  needed_from set [] h = All-nil (λ member. lives set member)
  needed_from set (member ∷ members) h =
      let both = and_parts (not (reads tree (among (without_unit member set)) tree.top)) _ h in
      All-cons (λ m. lives set m) member members (true_not _ both.0) (needed_from set members both.1)

  needed_to : (set members : List ℕ) → All (λ member. lives set member) members
      → list_all (λ member. not (reads tree (among (without_unit member set)) tree.top)) members ≡ true
  needed_to set [] all = refl
  needed_to set (member ∷ members) all =
      and_from _ _ (not_from_false _ (All-head (λ m. lives set m) member members all))
      (needed_to set members (All-tail (λ m. lives set m) member members all))

  minimal_from : (set : List ℕ) → is_minimal (units_in set) ≡ true → IsMinimalCut tree (units_in set)
  minimal_from set h =
      let both = and_parts (reads tree (among (units_in set)) tree.top) _ h in
      record {
        rising = passing_rises (among set) (unit_count tree);
        units =
            units_of_all tree (units_in set) (λ unit has. let at = passing_to (among set) (unit_count tree) unit has in
            (at.0, at.1));
        fails = both.0;
        needed = needed_from (units_in set) (units_in set) both.1;
      }

  sorted : (sets : List (List ℕ)) → IsInCutOrder (least_of sets)
  unfolding least_of
  sorted [] = none_in_order
  sorted (set ∷ sets) =
      cond_both (is_minimal (units_in set)) (put cut_cmp (units_in set) (least_of sets)) (least_of sets) IsInCutOrder
      (λ _. put_sorted cut_cmp_total cut_cmp-same (units_in set) (least_of sets) (sorted sets))
      (λ _. sorted sets)

  sound : (sets : List (List ℕ)) (found : List ℕ) → Contains (least_of sets) found → IsMinimalCut tree found
  unfolding least_of
  sound [] found has = Contains-nil found has
  sound (set ∷ sets) found has =
      cond_both (is_minimal (units_in set)) (put cut_cmp (units_in set) (least_of sets)) (least_of sets)
      (λ least. Contains least found → IsMinimalCut tree found)
      (λ minimal at. elim (put_from cut_cmp_total cut_cmp-same (units_in set) found (least_of sets) at) [
        | inl same ↦ subst (IsMinimalCut tree) same (minimal_from set minimal)
        | inr old ↦ sound sets found old
      ])
      (λ _ at. sound sets found at)
      has

  has_least : (sets : List (List ℕ)) (set : List ℕ) → Contains sets set → is_minimal (units_in set) ≡ true
      → Contains (least_of sets) (units_in set)
  unfolding least_of
  has_least [] set has minimal = Contains-nil set has
  has_least (first ∷ sets) set has minimal =
      elim (Contains-cons_cases first set sets has) [
        | inl same ↦ subst (λ q. Contains (least_of (first ∷ sets)) (units_in q)) same
            (here first sets (subst (λ q. is_minimal (units_in q) ≡ true) (sym same) minimal))
        | inr later ↦
            cond_both (is_minimal (units_in first)) (put cut_cmp (units_in first) (least_of sets)) (least_of sets)
            (λ least. Contains least (units_in set))
            (λ _. put_keeps cut_cmp_total cut_cmp-same (units_in first) (units_in set) (least_of sets)
            (has_least sets set later minimal))
            (λ _. has_least sets set later minimal)
      ]
    where
      here : (first : List ℕ) (sets : List (List ℕ)) → is_minimal (units_in first) ≡ true
          → Contains (least_of (first ∷ sets)) (units_in first)
      here first sets minimal =
          cond_both (is_minimal (units_in first)) (put cut_cmp (units_in first) (least_of sets)) (least_of sets)
          (λ least. Contains least (units_in first))
          (λ _. put_has cut_cmp_total cut_cmp-same (units_in first) (least_of sets))
          (λ other. absurd (false≢true (sym other ∙ minimal)))

  -- a set of units of the tree is its units
  own_units : {set : List ℕ} → IsRising set → All (IsUnitOf tree) set → units_in set ≡ set
  own_units {set} rising units =
      same_set (units_in set) set (passing_rises (among set) (unit_count tree)) rising
      (λ unit. same_Bool (among (units_in set) unit) (among set unit)
      (λ has. (passing_to (among set) (unit_count tree) unit has).2)
      (λ has. let is = All-contains (IsUnitOf tree) set unit units (Contains-from_among set unit has) in
      passing_from (among set) (unit_count tree) unit is.0 is.1 has))

  complete : (set : List ℕ) → IsMinimalCut tree set → Contains (least_of (sets_to (unit_count tree))) set
  complete set minimal =
      let same : units_in set ≡ set = own_units minimal.rising minimal.units in
      let again : units_in (units_in set) ≡ set = ap units_in same ∙ same in
      let is : is_minimal set ≡ true =
      and_from (reads tree (among set) tree.top) _ minimal.fails (needed_to set set minimal.needed) in
      subst (Contains (least_of (sets_to (unit_count tree)))) again
      (has_least (sets_to (unit_count tree)) (units_in set) (has_passing (among set) (unit_count tree))
      (ap is_minimal again ∙ is))

  pub has_cut_list : (cuts : List (List ℕ)) × IsCutList tree cuts
  has_cut_list = (
    least_of (sets_to (unit_count tree)),
    record {
      sound =
          All-weaker (Contains (least_of (sets_to (unit_count tree)))) (IsMinimalCut tree)
          (sound (sets_to (unit_count tree))) (least_of (sets_to (unit_count tree)))
          (All-contains_itself (least_of (sets_to (unit_count tree))));
      complete = complete;
      ordered = sorted (sets_to (unit_count tree));
    },
  )
