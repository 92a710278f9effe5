-- What follows from the definitions of `specs/Inclusion`.
use Rattle.std.specs.Prelude.{◌≡◌, ◌⊎◌, ℕ, ◌<◌, ◌≤◌, Bool, true, false, ◌&&◌, ◌||◌, List, [], ◌∷◌, Contains}
use Rattle.std.specs.Prelude.{length}
use Rattle.std.specs.{List.AllByRecursion, List.Sorted.IsStrictlySortedBy, Ordering.nat_cmp}
use Rattle.std.specs.{declared.cmp.Ordering.TheVariants.Less}
use Rattle.std.proofs.Common.{refl, sym, ◌∙◌, ap, subst, inl, inr, arith, eq-eqb}
use Rattle.std.proofs.lemmas.Bool.{or_cases, or_left, or_right, and_parts, ne_eqb, eqb-true, false≢true}
use Rattle.std.proofs.lemmas.Bool.Decides.{nat_tests}
use Rattle.unit_sets.specs.UnitList.{among, is_within, IsRising}
use Rattle.unit_sets.proofs.UnitListLemmas.{among-from_is_within, is_within-from_among, same_set}
use Rattle.zdd_families.specs.{Family.IsSetAbove, Cuts.Cuts, Inclusion.Includes, Inclusion.includes_one}
use Rattle.zdd_families.proofs.{FamilyLemmas.IsSetAbove-lower, FamilyLemmas.lacks, SetsLemmas.unit_above}
use Rattle.zdd_families.proofs.{SetsLemmas.IsRising-rest}
use Rattle.zdd_families.proofs.CutsLemmas.{cut_each, cut_has_lo, cut_has_hi, set_above, found_in, test_from}

pub same_Bool : (a b : Bool) → (a ≡ true → b ≡ true) → (b ≡ true → a ≡ true) → a ≡ b
same_Bool true b to from = sym (to refl)
same_Bool false true to from = from refl
same_Bool false false to from = refl

pub Includes-from_test : (family : List (List ℕ)) (set : List ℕ) → includes_one family set ≡ true → Includes family set
Includes-from_test family set h =
    let found = found_in (is_within set) family h in
    record { part = found.of; has = found.has; within = found.passes }

pub test-from_part : (family : List (List ℕ)) (set part : List ℕ) → Contains family part → is_within set part ≡ true
    → includes_one family set ≡ true
test-from_part family set part has within = test_from (is_within set) family part has within

-- ---- inclusion of sets

pub within_itself : (set : List ℕ) → is_within set set ≡ true
within_itself set = is_within-from_among set set (λ unit h. h)

pub within_trans : (a b c : List ℕ) → is_within a b ≡ true → is_within b c ≡ true → is_within a c ≡ true
within_trans a b c h k =
    is_within-from_among a c (λ unit has. among-from_is_within a b unit h (among-from_is_within b c unit k has))

-- two rising sets that are within each other are equal
pub same_within : {a b : List ℕ} → IsRising a → IsRising b → is_within a b ≡ true → is_within b a ≡ true → a ≡ b
same_within {a} {b} s t h k =
    same_set a b s t (λ unit. same_Bool (among a unit) (among b unit) (among-from_is_within b a unit k)
    (among-from_is_within a b unit h))

other_first : (x unit : ℕ) (set : List ℕ) → x < unit → among (x ∷ set) unit ≡ among set unit
other_first x unit set h = ap (λ q. q || among set unit) (ne_eqb _ _ (λ e. omega arith))

-- x, below all units of a part, does not help to include the part
pub within-with_first : (x : ℕ) (set part : List ℕ) → IsSetAbove x part → is_within (x ∷ set) part ≡ is_within set part
within-with_first x set [] above = refl
within-with_first x set (unit ∷ part) above =
    cc (other_first x unit set above.0, within-with_first x set part above.1)

pub within-with_both : (x : ℕ) (set part : List ℕ) → IsSetAbove x part
    → is_within (x ∷ set) (x ∷ part) ≡ is_within set part
within-with_both x set part above =
    ap (λ q. q && is_within (x ∷ set) part) (or_left _ _ (eq-eqb x x refl))
    ∙ within-with_first _ _ _ above

-- a set above x includes no set with x
pub within-none : (x : ℕ) (set part : List ℕ) → IsSetAbove x set → is_within set (x ∷ part) ≡ false
within-none x set part above = ap (λ q. q && is_within set part) (lacks x set above)

-- ---- what a set includes of a family that is cut

module _ {x : ℕ} {g g0 g1 : List (List ℕ)} (cut : Cuts x g g0 g1) (set : List ℕ) (above : IsSetAbove x set) where
  lo_to : includes_one g set ≡ true → includes_one g0 set ≡ true
  lo_to h =
      let found : Includes g set = Includes-from_test g set h in
      cut_each (λ q. is_within set q ≡ true → includes_one g0 set ≡ true) cut
      (λ part has within. test-from_part g0 set part has within)
      (λ rest has within. absurd (false≢true (sym (within-none x set rest above) ∙ within))) found.part found.has
      found.within

  lo_from : includes_one g0 set ≡ true → includes_one g set ≡ true
  lo_from h =
      let found : Includes g0 set = Includes-from_test g0 set h in
      test-from_part g set found.part (cut_has_lo _ cut found.has) found.within

  -- a set above x includes of g what it includes of the sets without x
  pub includes_one-above : includes_one g set ≡ includes_one g0 set
  includes_one-above = same_Bool _ _ lo_to lo_from

  hi_to : includes_one g (x ∷ set) ≡ true → (includes_one g1 set || includes_one g0 set) ≡ true
  hi_to h =
      let found : Includes g (x ∷ set) = Includes-from_test g (x ∷ set) h in
      cut_each (λ q. is_within (x ∷ set) q ≡ true → (includes_one g1 set || includes_one g0 set) ≡ true) cut
      (λ part has within. or_right _ _ (test-from_part g0 set part has
      (sym (within-with_first x set part (set_above _ _ _ cut.lo_above has)) ∙ within)))
      (λ rest has within. or_left _ _ (test-from_part g1 set rest has
      (sym (within-with_both x set rest (set_above _ _ _ cut.hi_above has)) ∙ within))) found.part found.has
      found.within

  hi_from : (includes_one g1 set || includes_one g0 set) ≡ true → includes_one g (x ∷ set) ≡ true
  hi_from h =
      elim (or_cases _ _ h) [
        | inl of_hi ↦
            let found : Includes g1 set = Includes-from_test g1 set of_hi in
            test-from_part g (x ∷ set) (x ∷ found.part) (cut_has_hi _ cut found.has)
            (within-with_both x set found.part (set_above _ _ _ cut.hi_above found.has) ∙ found.within)
        | inr of_lo ↦
            let found : Includes g0 set = Includes-from_test g0 set of_lo in
            test-from_part g (x ∷ set) found.part (cut_has_lo _ cut found.has)
            (within-with_first x set found.part (set_above _ _ _ cut.lo_above found.has) ∙ found.within)
      ]

  -- with x it includes also the sets with x whose rest it includes
  pub includes_one-with : includes_one g (x ∷ set) ≡ (includes_one g1 set || includes_one g0 set)
  includes_one-with = same_Bool _ _ hi_to hi_from

-- ---- a set that includes another and is not included has more units

pub rising_above : (x : ℕ) (set : List ℕ) → AllByRecursion (λ y. nat_cmp x y ≡ Less) set → IsSetAbove x set
rising_above x [] s = tt
rising_above x (unit ∷ set) s = (let k = s.0 in grind (arith, nat_tests), rising_above x set s.1)

pub above_first : (x : ℕ) (set : List ℕ) → IsRising (x ∷ set) → IsSetAbove x set
unfolding IsStrictlySortedBy
above_first x set s = rising_above x set s.0

higher : (b a : ℕ) (part : List ℕ) → b < a → IsSetAbove a part → IsSetAbove b part
higher b a part h above = IsSetAbove-lower _ _ _ (omega arith) above

-- the part's first unit is the set's, and the rest within the rest; or all of the part is within the rest
starts : (b a : ℕ) (set part : List ℕ) → IsRising (b ∷ set) → IsRising (a ∷ part)
    → is_within (b ∷ set) (a ∷ part) ≡ true → ((b ≡ a) × (is_within set part ≡ true))
    ⊎ (is_within set (a ∷ part) ≡ true)
starts b a set part s t h =
    elim (or_cases _ _ (and_parts _ _ h).0) [
      | inl here ↦
          let same : b ≡ a = eqb-true _ _ here in
          inl (
            same,
            sym (within-with_first b set part (subst (λ q. IsSetAbove q part) (sym same) (above_first a part t)))
                ∙ (and_parts _ _ h).1,
          )
      | inr later ↦
          let below : b < a = unit_above b a set (above_first b set s) later in
          inr (sym (within-with_first b set (a ∷ part) (below, higher b a part below (above_first a part t))) ∙ h)
    ]

pub within-length : (set part : List ℕ) → IsRising set → IsRising part → is_within set part ≡ true
    → length part ≤ length set
within-length set [] s t h = omega arith
within-length [] (a ∷ part) s t h = absurd cc
within-length (b ∷ set) (a ∷ part) s t h =
    elim (starts b a set part s t h) [
      | inl both ↦ let k = within-length _ _ (IsRising-rest b set s) (IsRising-rest a part t) both.1 in omega arith
      | inr later ↦ let k = within-length _ _ (IsRising-rest b set s) t later in omega arith
    ]

not_back : {b a : ℕ} (set part : List ℕ) → b ≡ a → IsSetAbove b set → is_within (a ∷ part) (b ∷ set) ≡ false
    → is_within part set ≡ false
not_back {b} set part same above h =
    sym (within-with_both _ _ _ above) ∙ ap (λ q. is_within (q ∷ part) (b ∷ set)) same ∙ h

pub within-shorter : (set part : List ℕ) → IsRising set → IsRising part → is_within set part ≡ true
    → is_within part set ≡ false → length part < length set
within-shorter [] [] s t h back = absurd cc
within-shorter (b ∷ set) [] s t h back = omega arith
within-shorter [] (a ∷ part) s t h back = absurd cc
within-shorter (b ∷ set) (a ∷ part) s t h back =
    elim (starts b a set part s t h) [
      | inl both ↦ let k =
          within-shorter _ _ (IsRising-rest b set s) (IsRising-rest a part t) both.1
          (not_back set part both.0 (above_first b set s) back) in omega arith
      | inr later ↦ let k = within-length _ _ (IsRising-rest b set s) t later in omega arith
    ]
