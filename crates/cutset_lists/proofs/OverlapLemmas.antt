-- The units of lists one after another, and whether two of the lists have one in common.
use Rattle.std.specs.Prelude.{◌≡◌, ℕ, ◌+◌, ◌-◌, ◌<◌, ◌≤◌, Bool, true, false, ◌||◌, ◌==◌, List, [], ◌∷◌, ◌++◌, length}
use Rattle.std.specs.Prelude.{take, get_or, flat_map, All, IsTrue}
use Rattle.std.specs.List.{list_any}
use Rattle.std.proofs.Common.{refl, sym, ◌∙◌, ap, subst, arith}
use Rattle.std.proofs.lemmas.List.{get_or_default, take_more, take_all, get_or-take, length-take}
use Rattle.std.proofs.lemmas.List.Folds.{list_any-append, list_any_more, list_any_at, Any-from_list_any}
use Rattle.std.proofs.lemmas.List.Quantifiers.{all_pairs_push}
use Rattle.unit_sets.specs.UnitList.{among}
use Rattle.unit_sets.proofs.UnitListLemmas.{among-from_Contains, Contains-from_among}
use Rattle.cutset_lists.specs.Generation.{HasList, list_at}
use Rattle.cutset_lists.specs.Overlap.{AreAllApart, AreApart, has_unit}
use Rattle.cutset_lists.proofs.{GateLemmas.has_list, GateLemmas.list_read, WaitingLemmas.some_holds}

-- ---- what is seen

-- the units of the first nodes' lists were seen, and no two of these lists have one in common
pub record HasSeen (lists : List (List (List ℕ))) (nodes : List ℕ) (count : ℕ) (seen : List ℕ) : Type 0 where
  pub met : (unit : ℕ)
      → among seen unit ≡ list_any (λ node. has_unit (list_at lists node) unit) (take count nodes)
  pub apart : AreAllApart lists (take count nodes)

-- ---- units in common

-- the units of a list, one set's after another's
any_flat : (p : ℕ → Bool) (list : List (List ℕ))
    → list_any p (flat_map (λ set. set) list) ≡ list_any (list_any p) list
any_flat p [] = refl
any_flat p (set ∷ list) =
    list_any-append p set (flat_map (λ s. s) list) ∙ ap (λ b. list_any p set || b) (any_flat p list)

module _ (seen : List ℕ) {units : List ℕ} (list : List (List ℕ)) (units_are : units ≡ flat_map (λ set. set) list) where
  pub are_units : (unit : ℕ) → among units unit ≡ has_unit list unit
  are_units unit = ap (λ (l : List ℕ). among l unit) units_are ∙ any_flat (λ member. member == unit) list

  pub some_meets_at : (unit : ℕ) → has_unit list unit ≡ true → among seen unit ≡ true
      → list_any (among seen) units ≡ true
  some_meets_at unit there met =
      some_holds (among seen) units unit (Contains-from_among units unit (are_units unit ∙ there)) met

  -- a unit of the list that was seen
  pub unit_met : list_any (among seen) units ≡ true
      → (unit : ℕ) × (has_unit list unit ≡ true) × (among seen unit ≡ true)
  unit_met meets =
      let (k, unit, short, same, met) = Any-from_list_any (among seen) units meets in
      (unit, sym (are_units unit) ∙ among-from_Contains units unit (k, short, same), met)

unless : (b : Bool) → (b ≡ true → false ≡ true) → b ≡ false
unless true h = sym (h refl)
unless false h = refl

-- ---- nodes one after another, of which one is next

module _ {lists : List (List (List ℕ))} {nodes : List ℕ} {k node place : ℕ} {list : List (List ℕ)}
    (short : k < length nodes) (is : node ≡ get_or nodes k node) (all : All (HasList lists) nodes)
    (place_is : place ≡ node - 1) (read : list ≡ get_or lists place list) {seen units : List ℕ}
    (units_are : units ≡ flat_map (λ set. set) list) (before : HasSeen lists nodes k seen) where
  list_is : list ≡ list_at lists node
  list_is = list_read lists node (has_list lists nodes k short is all) place_is read

  abbrev has : ℕ → ℕ → Bool
  has unit n = has_unit (list_at lists n) unit

  pub met_more : (new : List ℕ) → ((unit : ℕ) → among new unit ≡ (among seen unit || among units unit))
      → (unit : ℕ) → among new unit ≡ list_any (has unit) (take (k + 1) nodes)
  met_more new more unit =
      more unit
      ∙ ap (λ b. among seen unit || b) (are_units seen list units_are unit)
      ∙ ap (λ b. b || has_unit list unit) (before.met unit)
      ∙ ap (λ l. list_any (has unit) (take k nodes) || has_unit l unit) (list_is ∙ ap (list_at lists) is)
      ∙ sym (list_any_more (has unit) nodes k node short)

  pub apart_more : list_any (among seen) units ≡ false → AreAllApart lists (take (k + 1) nodes)
  apart_more none =
      subst (AreAllApart lists) (sym (take_more nodes k node short ∙ ap (λ n. take k nodes ++ n ∷ []) (sym is)))
      (all_pairs_push (λ earlier later. AreApart (list_at lists earlier) (list_at lists later)) (take k nodes) node
      before.apart
      (λ j e within unit there. unless (has unit node) (λ here.
      let met : among seen unit ≡ true =
      before.met unit ∙ list_any_at (has unit) (take k nodes) j e within there in
      sym none ∙ some_meets_at seen list units_are unit (ap (λ l. has_unit l unit) list_is ∙ here) met)))

  pub unit_twice : list_any (among seen) units ≡ true → AreAllApart lists nodes → IsTrue false
  unit_twice meets apart =
      let met = unit_met seen list units_are meets in
      let first = Any-from_list_any (has met.0) (take k nodes) (sym (before.met met.0) ∙ met.2) in
      let earlier : first.0 < k = (let within = first.2 in let size = length-take k nodes in omega arith) in
      let at : get_or nodes first.0 first.1 ≡ first.1 =
      sym (get_or-take k nodes first.0 first.1 earlier) ∙ first.3 in
      let last : get_or nodes k first.1 ≡ node = get_or_default nodes k first.1 node short ∙ sym is in
      let left : has met.0 (get_or nodes first.0 first.1) ≡ true = ap (has met.0) at ∙ first.4 in
      let none : has met.0 (get_or nodes k first.1) ≡ false = apart first.0 k first.1 earlier short met.0 left in
      sym none ∙ ap (has met.0) last ∙ sym (ap (λ l. has_unit l met.0) list_is) ∙ met.1

-- after all nodes
pub all_apart : {lists : List (List (List ℕ))} {nodes : List ℕ} {k : ℕ} {seen : List ℕ} → length nodes ≤ k
    → HasSeen lists nodes k seen → AreAllApart lists nodes
all_apart {lists} {nodes} {k} past held = subst (AreAllApart lists) (take_all k nodes past) held.apart

-- ---- two lists

module _ (left right : List (List ℕ)) {none : List ℕ} (seen : List ℕ) {units others : List ℕ} (empty : none ≡ [])
    (units_are : units ≡ flat_map (λ set. set) left) (others_are : others ≡ flat_map (λ set. set) right)
    (more : (unit : ℕ) → among seen unit ≡ (among none unit || among units unit)) where
  met : (unit : ℕ) → among seen unit ≡ has_unit left unit
  met unit =
      more unit ∙ ap (λ (s : List ℕ). among s unit || among units unit) empty ∙ are_units none left units_are unit

  pub two_apart : list_any (among seen) others ≡ false → AreApart left right
  two_apart apart unit there = unless (has_unit right unit) (λ here.
      sym apart ∙ some_meets_at seen right others_are unit here (met unit ∙ there))

  pub none_meets : AreApart left right → list_any (among seen) others ≡ false
  none_meets apart = unless (list_any (among seen) others) (λ meets.
      let unit = unit_met seen right others_are meets in
      sym (apart unit.0 (sym (met unit.0) ∙ unit.2)) ∙ unit.1)
