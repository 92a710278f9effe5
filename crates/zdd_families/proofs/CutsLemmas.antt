-- What follows from the definitions of `specs/Cuts`.
use Rattle.std.specs.Prelude.{◌≡◌, ◌⊎◌, ℕ, Bool, true, List, [], ◌∷◌, Contains}
use Rattle.std.specs.List.{AllByRecursion, list_any}
use Rattle.std.proofs.Common.{refl, sym, ◌∙◌, ap, subst, inl, inr, arith}
use Rattle.std.proofs.lemmas.Bool.{or_cases, or_left, or_right}
use Rattle.std.proofs.lemmas.List.Elements.{All-contains, All-from_recursion}
use Rattle.unit_sets.specs.UnitList.{IsRising}
use Rattle.unit_sets.proofs.Sorted.{Contains-nil, Contains-cons_first, Contains-cons_other, Contains-cons_cases}
use Rattle.zdd_families.specs.Family.{IsFamily, IsAbove, IsSetAbove, branch, first_unit, sets_with, sets_without}
use Rattle.zdd_families.proofs.Members.{HasWith, branch-has_lo, branch-has_hi, branch-cases, branch_each}
use Rattle.zdd_families.specs.{Cuts.Cuts, Due.Splits}
use Rattle.zdd_families.proofs.FamilyLemmas.{sets_without-branch, sets_with-branch, first_unit-branch}

-- ---- what holds of each set

pub each-contains : {K : Type 0} (P : K → Type 0) (xs : List K) (x : K) → AllByRecursion P xs → Contains xs x → P x
each-contains P xs x all h = All-contains P xs x (All-from_recursion P xs all) h

pub each-from_contains : {K : Type 0} (P : K → Type 0) (xs : List K) → ((x : K) → Contains xs x → P x)
    → AllByRecursion P xs
each-from_contains P [] all = tt
each-from_contains P (x ∷ xs) all =
    (all x (Contains-cons_first _ _), each-from_contains P xs (λ y h. all y (Contains-cons_other _ _ _ h)))

pub set_above : (x : ℕ) (f : List (List ℕ)) (set : List ℕ) → IsAbove x f → Contains f set → IsSetAbove x set
set_above x f set above h = each-contains _ _ _ above h

pub set_rises : {f : List (List ℕ)} (set : List ℕ) → IsFamily f → Contains f set → IsRising set
set_rises {f} set is h = each-contains _ _ _ is.rising h

-- a member that passes a test
pub record Found {K : Type 0} (test : K → Bool) (xs : List K) : Type 0 where
  pub of : K
  pub has : Contains xs of
  pub passes : test of ≡ true

pub found_in : {K : Type 0} (test : K → Bool) (xs : List K) → list_any test xs ≡ true → Found test xs
found_in test [] h = absurd cc
found_in test (first ∷ others) h =
    elim (or_cases _ _ h) [
      | inl here ↦ record { of = first; has = Contains-cons_first _ _; passes = here }
      | inr later ↦
          let found : Found test others = found_in test others later in
          record { of = found.of; has = Contains-cons_other _ _ _ found.has; passes = found.passes }
    ]

pub test_from : {K : Type 0} (test : K → Bool) (xs : List K) (x : K) → Contains xs x → test x ≡ true
    → list_any test xs ≡ true
test_from test [] x has h = Contains-nil x has
test_from test (first ∷ others) x has h =
    elim (Contains-cons_cases first x others has) [
      | inl same ↦ or_left _ _ (ap test same ∙ h)
      | inr later ↦ or_right _ _ (test_from test others x later h)
    ]

-- the one set of the family of the empty set alone
pub only_empty : (set : List ℕ) → Contains ([] ∷ []) set → [] ≡ set
only_empty set h =
    elim (Contains-cons_cases [] set [] h) [
      | inl same ↦ same
      | inr later ↦ Contains-nil _ later
    ]

-- ---- the sets of a family that is cut

pub cut_cases : {x : ℕ} {f lo hi : List (List ℕ)} (set : List ℕ) → Cuts x f lo hi → Contains f set
    → Contains lo set ⊎ HasWith x hi set
cut_cases {x} {lo} {hi} set cut h = branch-cases _ _ _ _ (subst (λ q. Contains q set) cut.is h)

pub cut_has_lo : {x : ℕ} {f lo hi : List (List ℕ)} (set : List ℕ) → Cuts x f lo hi → Contains lo set → Contains f set
cut_has_lo {x} {lo} {hi} set cut h =
    subst (λ q. Contains q set) (sym cut.is) (branch-has_lo _ _ _ _ h)

pub cut_has_hi : {x : ℕ} {f lo hi : List (List ℕ)} (set : List ℕ) → Cuts x f lo hi → Contains hi set
    → Contains f (x ∷ set)
cut_has_hi {x} {lo} {hi} set cut h =
    subst (λ q. Contains q (x ∷ set)) (sym cut.is) (branch-has_hi _ _ _ _ h)

pub cut_each : {x : ℕ} {f lo hi : List (List ℕ)} (P : List ℕ → Type 0) → Cuts x f lo hi
    → ((set : List ℕ) → Contains lo set → P set) → ((rest : List ℕ) → Contains hi rest → P (x ∷ rest))
    → (set : List ℕ) → Contains f set → P set
cut_each {x} {lo} {hi} P cut of_lo of_hi set h =
    branch_each P x lo hi of_lo of_hi set (subst (λ q. Contains q set) cut.is h)

-- a set above x does not begin with x
pub not_with : {G : Type 0} {x : ℕ} (set : List ℕ) {rest : List ℕ} → IsSetAbove x set → set ≡ x ∷ rest → G
not_with [] above same = absurd cc
not_with {x} (unit ∷ set) above same = let e : unit ≡ x = cc in absurd (let k = above.0 in omega (arith, e))

-- a set of the family that is above x is one of lo
pub cut_lo : {x : ℕ} {f lo hi : List (List ℕ)} (set : List ℕ) → Cuts x f lo hi → IsSetAbove x set → Contains f set
    → Contains lo set
cut_lo set cut above h =
    elim (cut_cases _ cut h) [
      | inl of_lo ↦ of_lo
      | inr with_x ↦ not_with _ above with_x.1
    ]

pub same_rest : {x : ℕ} {a b : List ℕ} → x ∷ a ≡ x ∷ b → a ≡ b
same_rest h = cc

-- ---- a family that has no sets with x

pub branch-none : (x : ℕ) (lo : List (List ℕ)) → branch x lo [] ≡ lo
branch-none x [] = refl
branch-none x ([] ∷ others) = refl
branch-none x ((unit ∷ set) ∷ others) = refl

-- a family of units above x is cut at x into itself and no sets
pub cut_above : (x : ℕ) (f : List (List ℕ)) → IsAbove x f → Cuts x f f []
cut_above x f above = record { is = sym (branch-none x f); lo_above = above; hi_above = tt }

-- ---- a family tells how it is cut

pub cut_without : {x : ℕ} {f lo hi : List (List ℕ)} → Cuts x f lo hi → sets_without x f ≡ lo
cut_without {x} {lo} {hi} cut = ap (sets_without x) cut.is ∙ sets_without-branch x lo hi cut.lo_above

pub cut_with : {x : ℕ} {f lo hi : List (List ℕ)} → Cuts x f lo hi → sets_with x f ≡ hi
cut_with {x} {lo} {hi} cut = ap (sets_with x) cut.is ∙ sets_with-branch x lo hi cut.lo_above cut.hi_above

pub split_first : {x : ℕ} {f lo hi : List (List ℕ)} → Splits x f lo hi → first_unit f ≡ x
split_first {x} {lo} {hi} s = ap first_unit s.cut.is ∙ first_unit-branch x lo hi s.some_with

-- it splits in one way
module _ {x y : ℕ} {f lo hi lo' hi' : List (List ℕ)} (s : Splits x f lo hi) (s' : Splits y f lo' hi') where
  pub split-unit : x ≡ y
  split-unit = sym (split_first s) ∙ split_first s'

  pub split-lo : lo ≡ lo'
  split-lo = sym (cut_without s.cut) ∙ ap (λ z. sets_without z f) split-unit ∙ cut_without s'.cut

  pub split-hi : hi ≡ hi'
  split-hi = sym (cut_with s.cut) ∙ ap (λ z. sets_with z f) split-unit ∙ cut_with s'.cut
