-- Least families: a test has one, and it is the minimal sets of any family that is true by the test.
use Rattle.std.specs.Prelude.{◌≡◌, ℕ, Bool, true, false, not, ◌==◌, List, Contains}
use Rattle.std.proofs.Common.{refl, sym, ◌∙◌, subst, inl, inr, eq-eqb}
use Rattle.std.proofs.lemmas.Bool.{cases_Bool, false_from_ne_true, false≢true, and_parts, and_from, and_right, ne_eqb}
use Rattle.std.proofs.lemmas.Bool.{not_from_true, not_from_false}
use Rattle.std.proofs.lemmas.Cmp.{nat_list_cmp_total}
use Rattle.std.proofs.lemmas.List.Elements.{All-contains, All-weaker, All-contains_itself}
use Rattle.unit_sets.proofs.Sorted.{same_from_members}
use Rattle.unit_sets.specs.UnitList.{among, without_unit, is_within}
use Rattle.unit_sets.proofs.UnitListLemmas.{among-without_unit, among-from_Contains}
use Rattle.unit_sets.proofs.UnitListLemmas.{Contains-from_among, among-from_is_within, is_within-from_among}
use Rattle.fault_definitions.specs.Tree.{FaultTree}
use Rattle.fault_definitions.proofs.{MinimalCuts.units_of_all}
use Rattle.zdd_families.specs.{Family.IsFamily, Inclusion.Includes, Minimal.IsMinimal}
use Rattle.zdd_families.proofs.{CutsLemmas.set_rises, MinimalLemmas.minimal-covers}
use Rattle.zdd_families.proofs.WithinLemmas.{HasWithin, HasWithin-from_test, some_within-from_set}
use Rattle.zdd_families.proofs.WithinLemmas.{some_within-minimal}
use Rattle.zdd_families.proofs.InclusionLemmas.{within_itself, within_trans, same_within}
use Rattle.tree_families.specs.{Generation.IsTrueWhere, Least.IsLeastSet, Least.IsLeastFamily}

-- a test has one least family
pub least_family-one : (tree : FaultTree) (test : (ℕ → Bool) → Bool) (f g : List (List ℕ)) → IsLeastFamily tree test f
    → IsLeastFamily tree test g → f ≡ g
least_family-one tree test f g is is' =
    same_from_members nat_list_cmp_total f g is.ordered is'.ordered
    (λ set has. is'.complete set (All-contains (IsLeastSet tree test) f set is.sound has))
    (λ set has. is.complete set (All-contains (IsLeastSet tree test) g set is'.sound has))

-- ---- the minimal sets of a family that is true by the test

-- what lies within a set without one of its units does not have the unit
lacks_unit : (set part : List ℕ) (unit : ℕ) → is_within (without_unit unit set) part ≡ true → among part unit ≡ true
    → ⊥
lacks_unit set part unit within has =
    let there : among (without_unit unit set) unit ≡ true =
    among-from_is_within (without_unit unit set) part unit within has in
    let gone : among (without_unit unit set) unit ≡ false =
    among-without_unit unit set unit ∙ and_right (among set unit) (not (unit == unit))
    (not_from_true (unit == unit) (eq-eqb unit unit refl)) in
    false≢true (sym gone ∙ there)

-- it lies within the set
within_whole : (set part : List ℕ) (unit : ℕ) → is_within (without_unit unit set) part ≡ true
    → is_within set part ≡ true
within_whole set part unit within =
    is_within-from_among set part (λ n has. (and_parts (among set n) (not (n == unit))
    (sym (among-without_unit unit set n) ∙ among-from_is_within (without_unit unit set) part n within has)).0)

-- what lies within a set and lacks a unit lies within the set without the unit
within_without : (set part : List ℕ) (unit : ℕ) → is_within set part ≡ true → among part unit ≡ false
    → is_within (without_unit unit set) part ≡ true
within_without set part unit within none =
    is_within-from_among (without_unit unit set) part (λ n has.
    among-without_unit unit set n
    ∙ and_from (among set n) (not (n == unit)) (among-from_is_within set part n within has)
    (not_from_false (n == unit) (ne_eqb n unit (λ same.
    false≢true (sym none ∙ subst (λ (q : ℕ). among part q ≡ true) same has)))))

module _ (tree : FaultTree) (test : (ℕ → Bool) → Bool) (f least : List (List ℕ)) (true_by : IsTrueWhere tree test f)
    (is : IsMinimal f least) where
  is_family : IsFamily f
  is_family = true_by.of_tree.is_family

  -- the minimal sets are true by the test too
  pub IsTrueWhere-minimal : IsTrueWhere tree test least
  IsTrueWhere-minimal = record {
    of_tree = record {
      is_family = is.is_family;
      units = λ set has. true_by.of_tree.units set ((is.sets set).0 has).0;
    };
    some_within = λ within. some_within-minimal f least within is_family is ∙ true_by.some_within within;
  }

  -- a set without one unit includes no set of the family, where it is minimal
  needs : (set : List ℕ) → Contains least set → (unit : ℕ) → among set unit ≡ true
      → test (among (without_unit unit set)) ≡ false
  needs set has unit member =
      let both = (is.sets set).0 has in
      sym (true_by.some_within (among (without_unit unit set)))
      ∙ false_from_ne_true _ (λ hit.
      let found : HasWithin f (among (without_unit unit set)) = HasWithin-from_test f hit in
      let same : found.set ≡ set = both.1 found.set found.has (within_whole set found.set unit found.passes) in
      lacks_unit set found.set unit found.passes (subst (λ q. among q unit ≡ true) (sym same) member))

  least_set : (set : List ℕ) → Contains least set → IsLeastSet tree test set
  least_set set has =
      let of_f : Contains f set = ((is.sets set).0 has).0 in
      record {
        rising = set_rises _ is_family of_f;
        units = units_of_all tree set (true_by.of_tree.units set of_f);
        passes =
            sym (true_by.some_within (among set)) ∙ some_within-from_set _ _ _ of_f (within_itself set);
        needed =
            All-weaker (Contains set) (λ unit. test (among (without_unit unit set)) ≡ false)
            (λ unit member. needs set has unit (among-from_Contains set unit member)) set (All-contains_itself set);
      }

  -- a set of the family within a least set has all of its units
  has_all : {set : List ℕ} (part : List ℕ) → IsLeastSet tree test set → Contains f part → is_within set part ≡ true
      → (unit : ℕ)
      → among set unit ≡ true → among part unit ≡ true
  has_all {set} part minimal of_f within unit member =
      elim (cases_Bool (among part unit)) [
        | inl has ↦ has
        | inr lacks ↦
            let passes : test (among (without_unit unit set)) ≡ true =
            sym (true_by.some_within (among (without_unit unit set)))
            ∙ some_within-from_set f (among (without_unit unit set)) part of_f
            (within_without set part unit within lacks) in
            let fails : test (among (without_unit unit set)) ≡ false =
            All-contains (λ u. test (among (without_unit u set)) ≡ false) set unit minimal.needed
            (Contains-from_among set unit member) in
            absurd (false≢true (sym fails ∙ passes))
      ]

  same_part : {set : List ℕ} (part : List ℕ) → IsLeastSet tree test set → Contains least part
      → is_within set part ≡ true → part ≡ set
  same_part {set} part minimal has within =
      let of_f : Contains f part = ((is.sets part).0 has).0 in
      same_within (set_rises _ is_family of_f) minimal.rising
      (is_within-from_among _ _ (has_all part minimal of_f within)) within

  complete : (set : List ℕ) → IsLeastSet tree test set → Contains least set
  complete set minimal =
      let found : HasWithin f (among set) = HasWithin-from_test f (true_by.some_within (among set) ∙ minimal.passes) in
      let part : Includes least found.set = minimal-covers f least is_family is found.set found.has in
      let within : is_within set part.part ≡ true = within_trans set found.set part.part found.passes part.within in
      subst (Contains least) (same_part part.part minimal part.has within) part.has

  -- they are the test's least family
  pub least_family-minimal : IsLeastFamily tree test least
  least_family-minimal = record {
    sound = All-weaker (Contains least) (IsLeastSet tree test) least_set least (All-contains_itself least);
    complete = complete;
    ordered = is.is_family.ordered;
  }
