-- What follows from the definitions of `specs/Family`.
use Rattle.std.specs.Prelude.{◌≡◌, ◌≢◌, ◌↔◌, ℕ, ◌<◌, ◌≤◌, true, false, not, ◌==◌, List, [], ◌∷◌, ◌++◌, map, filter}
use Rattle.std.specs.Prelude.{Contains}
use Rattle.std.specs.{List.AllByRecursion, List.Sorted.IsStrictlySortedBy, Ordering.nat_cmp, Ordering.ordering_then}
use Rattle.std.specs.{declared.cmp.Ordering.TheVariants.Less}
use Rattle.std.proofs.Common.{refl, sym, ◌∙◌, ap, arith, eq-eqb}
use Rattle.std.proofs.lemmas.Bool.{cond-false, or_left, or_from, ne_eqb, not_from_true, not_from_false}
use Rattle.std.proofs.{lemmas.Bool.Decides.nat_tests, lemmas.List.append-nil, lemmas.List.Elements.filter-append}
use Rattle.std.proofs.lemmas.Cmp.{nat_cmp_total, nat_list_cmp_total, tied_itself}
use Rattle.unit_sets.specs.UnitList.{among, without_unit, IsRising}
use Rattle.unit_sets.proofs.Sorted.{same_from_members}
use Rattle.zdd_families.proofs.SetsLemmas.{IsRising-with_first}
use Rattle.zdd_families.proofs.Lists.{each-append, each-weaker, sorted-append, sorted-map, filter-all, filter-none}
use Rattle.zdd_families.specs.Family.{IsAbove, IsFamily, IsSetAbove, branch, each_with, first_unit, set_cmp, sets_with}
use Rattle.zdd_families.specs.Family.{sets_without}

-- ---- the sets tell the family

pub same_family : (f g : List (List ℕ)) → IsFamily f → IsFamily g → ((set : List ℕ) → Contains f set ↔ Contains g set)
    → f ≡ g
same_family f g is is' same =
    same_from_members nat_list_cmp_total f g is.ordered is'.ordered (λ set h. (same set).0 h) (λ set h. (same set).1 h)

pub one_family : {P : List ℕ → Type 0} {f g : List (List ℕ)} → IsFamily f → IsFamily g
    → ((set : List ℕ) → Contains f set ↔ P set) → ((set : List ℕ) → Contains g set ↔ P set) → f ≡ g
one_family {f} {g} is is' same same' =
    same_family f g is is'
    (λ set. (λ has. (same' set).1 ((same set).0 has), λ has. (same set).1 ((same' set).0 has)))

pub IsFamily-nil : IsFamily []
unfolding IsStrictlySortedBy
IsFamily-nil = record { ordered = tt; rising = tt }

pub IsFamily-unit : IsFamily ([] ∷ [])
unfolding IsStrictlySortedBy
IsFamily-unit = record { ordered = (tt, tt); rising = (tt, tt) }

-- ---- a branch is a family

less_than_itself : (x : ℕ) (a b : List ℕ) → set_cmp a b ≡ Less → set_cmp (x ∷ a) (x ∷ b) ≡ Less
less_than_itself x a b h = ap (λ o. ordering_then o (set_cmp a b)) (tied_itself nat_cmp_total x) ∙ h

less_by_first : (x y : ℕ) (a b : List ℕ) → x < y → set_cmp (x ∷ a) (y ∷ b) ≡ Less
less_by_first x y a b h =
    let less : nat_cmp x y ≡ Less = grind (arith, nat_tests) in ap (λ o. ordering_then o (set_cmp a b)) less

-- a set that begins with x is before each set that is not empty and above x
before_one : (x : ℕ) (a b : List ℕ) → IsSetAbove x b → set_cmp [] b ≡ Less → set_cmp (x ∷ a) b ≡ Less
before_one x a [] above filled = absurd cc
before_one x a (y ∷ b) above filled = less_by_first x y a b above.0

before_each : (x : ℕ) (a : List ℕ) (lo : List (List ℕ)) → IsAbove x lo → AllByRecursion (λ b. set_cmp [] b ≡ Less) lo
    → AllByRecursion (λ b. set_cmp (x ∷ a) b ≡ Less) lo
before_each x a [] above filled = tt
before_each x a (b ∷ lo) above filled = (before_one x a b above.0 filled.0, before_each x a lo above.1 filled.1)

each_before_each : (x : ℕ) (hi lo : List (List ℕ)) → IsAbove x lo → AllByRecursion (λ b. set_cmp [] b ≡ Less) lo
    → AllByRecursion (λ a. AllByRecursion (λ b. set_cmp a b ≡ Less) lo) (each_with x hi)
each_before_each x [] lo above filled = tt
each_before_each x (a ∷ hi) lo above filled = (before_each x a lo above filled, each_before_each x hi lo above filled)

pub filled_after : (unit : ℕ) (set : List ℕ) (others : List (List ℕ))
    → AllByRecursion (λ b. set_cmp (unit ∷ set) b ≡ Less) others → AllByRecursion (λ b. set_cmp [] b ≡ Less) others
filled_after unit set [] after = tt
filled_after unit set ([] ∷ others) after = absurd (let e = after.0 in cc)
filled_after unit set ((y ∷ b) ∷ others) after = (refl, filled_after unit set others after.1)

filled_with : (x : ℕ) (hi : List (List ℕ)) → AllByRecursion (λ b. set_cmp [] b ≡ Less) (each_with x hi)
filled_with x [] = tt
filled_with x (a ∷ hi) = (refl, filled_with x hi)

sorted_with : (x : ℕ) (hi : List (List ℕ)) → IsStrictlySortedBy set_cmp hi → IsStrictlySortedBy set_cmp (each_with x hi)
sorted_with x hi s = sorted-map _ _ _ (λ a b h. less_than_itself x a b h) s

sorted-branch : (x : ℕ) (lo hi : List (List ℕ)) → IsStrictlySortedBy set_cmp lo → IsStrictlySortedBy set_cmp hi
    → IsAbove x lo → IsStrictlySortedBy set_cmp (branch x lo hi)
unfolding IsStrictlySortedBy
sorted-branch x [] hi s t above = sorted_with x hi t
sorted-branch x ([] ∷ others) hi s t above = (
  each-append _ _ _ (filled_with x hi) s.0,
  sorted-append _ _ _ (sorted_with x hi t) s.1 (each_before_each x hi others above.1 s.0),
)
sorted-branch x ((unit ∷ set) ∷ others) hi s t above =
    sorted-append _ _ _ (sorted_with x hi t) s
    (each_before_each x hi ((unit ∷ set) ∷ others) above (refl, filled_after unit set others s.0))

-- what holds of each set of lo, and of each set of hi with x, holds of each set of the branch
pub each-branch : (P : List ℕ → Type 0) (x : ℕ) (lo hi : List (List ℕ)) → AllByRecursion P lo
    → AllByRecursion P (each_with x hi) → AllByRecursion P (branch x lo hi)
each-branch P x [] hi all all' = all'
each-branch P x ([] ∷ others) hi all all' = (all.0, each-append P (each_with x hi) others all' all.1)
each-branch P x ((unit ∷ set) ∷ others) hi all all' = each-append _ _ _ all' all

rising_with : (x : ℕ) (hi : List (List ℕ)) → IsAbove x hi → AllByRecursion IsRising hi
    → AllByRecursion IsRising (each_with x hi)
rising_with x [] above all = tt
rising_with x (set ∷ hi) above all = (IsRising-with_first x set above.0 all.0, rising_with x hi above.1 all.1)

pub IsFamily-branch : (x : ℕ) (lo hi : List (List ℕ)) → IsFamily lo → IsFamily hi → IsAbove x lo → IsAbove x hi
    → IsFamily (branch x lo hi)
IsFamily-branch x lo hi is is' above above' = record {
  ordered = sorted-branch x lo hi is.ordered is'.ordered above;
  rising = each-branch IsRising x lo hi is.rising (rising_with x hi above' is'.rising);
}

-- ---- what is below x is below what is above x

pub IsSetAbove-lower : (y x : ℕ) (set : List ℕ) → y ≤ x → IsSetAbove x set → IsSetAbove y set
IsSetAbove-lower y x set h above = each-weaker _ _ _ (λ unit k. omega arith) above

pub IsAbove-lower : (y x : ℕ) (family : List (List ℕ)) → y ≤ x → IsAbove x family → IsAbove y family
IsAbove-lower y x family h above =
    each-weaker _ _ _ (λ set k. IsSetAbove-lower y x set h k) above

above_with : (y x : ℕ) (hi : List (List ℕ)) → y < x → IsAbove x hi → IsAbove y (each_with x hi)
above_with y x [] h above = tt
above_with y x (set ∷ hi) h above = ((h, IsSetAbove-lower y x set (omega arith) above.0), above_with y x hi h above.1)

pub IsAbove-branch : (y x : ℕ) (lo hi : List (List ℕ)) → y < x → IsAbove x lo → IsAbove x hi
    → IsAbove y (branch x lo hi)
IsAbove-branch y x lo hi h above above' =
    each-branch (IsSetAbove y) x lo hi (IsAbove-lower _ _ _ (omega arith) above) (above_with y x hi h above')

-- ---- the parts of a branch

pub lacks : (x : ℕ) (set : List ℕ) → IsSetAbove x set → among set x ≡ false
lacks x [] above = refl
lacks x (unit ∷ set) above =
    or_from (unit == x) (among set x) (ne_eqb _ _ (λ e. let below = above.0 in omega arith)) (lacks x set above.1)

has_first : (x : ℕ) (set : List ℕ) → among (x ∷ set) x ≡ true
has_first x set = or_left _ _ (eq-eqb x x refl)

lack_each : (x : ℕ) (lo : List (List ℕ)) → IsAbove x lo → AllByRecursion (λ set. among set x ≡ false) lo
lack_each x lo above = each-weaker _ _ _ (λ set h. lacks x set h) above

have_each : (x : ℕ) (hi : List (List ℕ)) → AllByRecursion (λ set. among set x ≡ true) (each_with x hi)
have_each x [] = tt
have_each x (set ∷ hi) = (has_first x set, have_each x hi)

none_without : (x : ℕ) (hi : List (List ℕ)) → sets_without x (each_with x hi) ≡ []
none_without x hi =
    filter-none _ _ (each-weaker _ _ _ (λ set h. not_from_true (among set x) h) (have_each x hi))

all_without : (x : ℕ) (lo : List (List ℕ)) → IsAbove x lo → sets_without x lo ≡ lo
all_without x lo above =
    filter-all _ _ (each-weaker _ _ _ (λ set h. not_from_false (among set x) h) (lack_each x lo above))

joined_without : (x : ℕ) (hi lo : List (List ℕ)) → IsAbove x lo → sets_without x (each_with x hi ++ lo) ≡ lo
joined_without x hi lo above =
    filter-append (λ set. not (among set x)) (each_with x hi) lo
    ∙ ap (λ q. q ++ sets_without x lo) (none_without x hi)
    ∙ all_without x lo above

-- the sets of a branch without x are lo
pub sets_without-branch : (x : ℕ) (lo hi : List (List ℕ)) → IsAbove x lo → sets_without x (branch x lo hi) ≡ lo
sets_without-branch x [] hi above = none_without x hi
sets_without-branch x ([] ∷ others) hi above = ap (λ q. [] ∷ q) (joined_without x hi others above.1)
sets_without-branch x ((unit ∷ set) ∷ others) hi above = joined_without x hi ((unit ∷ set) ∷ others) above

taken_out : (x : ℕ) (set : List ℕ) → IsSetAbove x set → without_unit x (x ∷ set) ≡ set
taken_out x set above =
    cond-false _ _ _ (not_from_true _ (eq-eqb x x refl))
    ∙ filter-all _ _ (each-weaker _ _ _
    (λ unit h. not_from_false (unit == x) (ne_eqb _ _ (λ e. omega arith))) above)

all_taken_out : (x : ℕ) (hi : List (List ℕ)) → IsAbove x hi → map (λ set. without_unit x set) (each_with x hi) ≡ hi
all_taken_out x [] above = refl
all_taken_out x (set ∷ hi) above =
    ap (λ q. without_unit x (x ∷ set) ∷ q) (all_taken_out x hi above.1) ∙ ap (λ q. q ∷ hi) (taken_out x set above.0)

joined_with : (x : ℕ) {hi : List (List ℕ)} (lo : List (List ℕ)) → IsAbove x hi → IsAbove x lo
    → sets_with x (each_with x hi ++ lo) ≡ hi
joined_with x {hi} lo above above' =
    ap (map (λ set. without_unit x set))
    (filter-append (λ set. among set x) (each_with x hi) lo
    ∙ ap (λ q. q ++ filter (λ set. among set x) lo) (filter-all (λ set. among set x) (each_with x hi) (have_each x hi))
    ∙ ap (λ q. each_with x hi ++ q) (filter-none (λ set. among set x) lo (lack_each x lo above'))
    ∙ append-nil (each_with x hi))
    ∙ all_taken_out x hi above

-- the sets of a branch with x, x taken out, are hi
pub sets_with-branch : (x : ℕ) (lo hi : List (List ℕ)) → IsAbove x lo → IsAbove x hi → sets_with x (branch x lo hi) ≡ hi
sets_with-branch x [] hi above above' =
    ap (sets_with x) (sym (append-nil (each_with x hi))) ∙ joined_with x {hi = hi} [] above' tt
sets_with-branch x ([] ∷ others) hi above above' = joined_with x others above' above.1
sets_with-branch x ((unit ∷ set) ∷ others) hi above above' = joined_with x ((unit ∷ set) ∷ others) above' above

-- x is the least unit of a branch whose hi has sets
pub first_unit-branch : (x : ℕ) (lo hi : List (List ℕ)) → hi ≢ [] → first_unit (branch x lo hi) ≡ x
first_unit-branch x lo [] filled = absurd (filled refl)
first_unit-branch x [] (set ∷ hi) filled = refl
first_unit-branch x ([] ∷ others) (set ∷ hi) filled = refl
first_unit-branch x ((unit ∷ set') ∷ others) (set ∷ hi) filled = refl

-- a branch whose hi has sets has sets
pub branch-filled : (x : ℕ) (lo hi : List (List ℕ)) → hi ≢ [] → branch x lo hi ≢ []
branch-filled x lo [] filled e = filled refl
branch-filled x [] (set ∷ hi) filled e = cc
branch-filled x ([] ∷ others) (set ∷ hi) filled e = cc
branch-filled x ((unit ∷ set') ∷ others) (set ∷ hi) filled e = cc

-- where all units of a branch whose hi has sets are above a number, so is x
pub unit_of_branch : (y x : ℕ) (lo hi : List (List ℕ)) → hi ≢ [] → IsAbove y (branch x lo hi) → y < x
unit_of_branch y x lo [] filled above = absurd (filled refl)
unit_of_branch y x [] (set ∷ hi) filled above = above.0.0
unit_of_branch y x ([] ∷ others) (set ∷ hi) filled above = above.1.0.0
unit_of_branch y x ((unit ∷ set') ∷ others) (set ∷ hi) filled above = above.0.0
