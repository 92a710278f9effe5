-- What follows from the definitions of `specs/Units`.
use Rattle.std.specs.Prelude.{◌≡◌, ◌≢◌, ◌⊎◌, ℕ, ◌≤◌, ◌==◌, List, [], ◌∷◌, Contains}
use Rattle.std.proofs.Common.{refl, sym, ◌∙◌, ap, subst, inl, inr, arith, max, eq-eqb}
use Rattle.std.proofs.lemmas.Bool.{cases_lt, or_cases, or_left, or_right, eqb-true}
use Rattle.unit_sets.specs.UnitList.{among}
use Rattle.unit_sets.proofs.Sorted.{Contains-cons_first, Contains-nil}
use Rattle.zdd_families.specs.{Family.branch, Cuts.Cuts}
use Rattle.zdd_families.proofs.Members.{branch-cases, branch-has_lo, branch-has_hi}
use Rattle.zdd_families.proofs.CutsLemmas.{cut_has_lo, cut_has_hi, set_above}
use Rattle.zdd_families.proofs.{SetsLemmas.unit_above, Parts.empty_unit}
use Rattle.zdd_families.specs.Units.{HasUnit, IsLastUnit, LiesBelow, ShareNoUnit}

-- ---- the units of a family that is cut

pub lo_unit : {x : ℕ} (unit : ℕ) {f lo hi : List (List ℕ)} → Cuts x f lo hi → HasUnit lo unit → HasUnit f unit
lo_unit unit cut has = (has.0, cut_has_lo has.0 cut has.1, has.2)

pub hi_unit : {x : ℕ} (unit : ℕ) {f lo hi : List (List ℕ)} → Cuts x f lo hi → HasUnit hi unit → HasUnit f unit
hi_unit {x} unit cut has = (x ∷ has.0, cut_has_hi has.0 cut has.1, or_right (x == unit) (among has.0 unit) has.2)

some_set : (f : List (List ℕ)) → f ≢ [] → (set : List ℕ) × Contains f set
some_set [] filled = absurd (filled refl)
some_set (set ∷ f) filled = (set, Contains-cons_first set f)

pub cut_unit : {x : ℕ} {f lo hi : List (List ℕ)} → Cuts x f lo hi → hi ≢ [] → HasUnit f x
cut_unit {x} {hi} cut filled =
    let first = some_set hi filled in
    (x ∷ first.0, cut_has_hi first.0 cut first.1, or_left (x == x) (among first.0 x) (eq-eqb x x refl))

-- ---- the last unit

pub last-none : IsLastUnit [] 0
last-none = record { most = λ unit has. Contains-nil has.0 has.1; reached = inl refl }

pub last-unit : IsLastUnit ([] ∷ []) 0
last-unit = record { most = λ unit has. empty_unit has.0 unit has.1 has.2; reached = inl refl }

units_of_branch : {x unit : ℕ} (lo hi : List (List ℕ)) → HasUnit (branch x lo hi) unit
    → (unit ≡ x) ⊎ (HasUnit lo unit ⊎ HasUnit hi unit)
units_of_branch {x} {unit} lo hi has =
    elim (branch-cases _ _ _ _ has.1) [
      | inl of_lo ↦ inr (inl (has.0, of_lo, has.2))
      | inr with_x ↦
          elim (or_cases _ _ (sym (ap (λ q. among q unit) with_x.1) ∙ has.2)) [
            | inl here ↦ inl (sym (eqb-true _ _ here))
            | inr later ↦ inr (inr (with_x.0, with_x.2, later))
          ]
    ]

max_cases : {x a b : ℕ} → (max (max x a) b ≡ x) ⊎ ((max (max x a) b ≡ a) ⊎ (max (max x a) b ≡ b))
max_cases {x} {a} {b} =
    elim (cases_lt (max x a) b) [
      | inl h ↦ inr (inr (omega arith))
      | inr h ↦
          elim (cases_lt x a) [
            | inl k ↦ inr (inl (omega arith))
            | inr k ↦ inl (omega arith)
          ]
    ]

-- the last unit of a branch whose hi has sets
module _ (x : ℕ) {lo hi : List (List ℕ)} {a b last : ℕ} (filled : hi ≢ []) (of_lo : IsLastUnit lo a)
    (of_hi : IsLastUnit hi b) (is : last ≡ max (max x a) b) where
  no_more : {unit : ℕ} → (unit ≡ x) ⊎ (HasUnit lo unit ⊎ HasUnit hi unit) → unit ≤ last
  no_more (inl here) = omega (arith, here, is)
  no_more {unit} (inr (inl has)) = let h = of_lo.most unit has in omega (arith, h, is)
  no_more {unit} (inr (inr has)) = let h = of_hi.most unit has in omega (arith, h, is)

  the_cut : HasUnit (branch x lo hi) x
  the_cut =
      let first = some_set hi filled in
      (x ∷ first.0, branch-has_hi x lo hi first.0 first.1, or_left (x == x) (among first.0 x) (eq-eqb x x refl))

  from_lo : (last ≡ a) → (a ≡ 0) ⊎ HasUnit lo a → (last ≡ 0) ⊎ HasUnit (branch x lo hi) last
  from_lo same (inl none) = inl (same ∙ none)
  from_lo same (inr has) =
      inr (subst (HasUnit (branch x lo hi)) (sym same) (has.0, branch-has_lo x lo hi has.0 has.1, has.2))

  from_hi : (last ≡ b) → (b ≡ 0) ⊎ HasUnit hi b → (last ≡ 0) ⊎ HasUnit (branch x lo hi) last
  from_hi same (inl none) = inl (same ∙ none)
  from_hi same (inr has) =
      inr (subst (HasUnit (branch x lo hi)) (sym same)
      (x ∷ has.0, branch-has_hi x lo hi has.0 has.1, or_right (x == b) (among has.0 b) has.2))

  one_of : (max (max x a) b ≡ x) ⊎ ((max (max x a) b ≡ a) ⊎ (max (max x a) b ≡ b))
      → (last ≡ 0) ⊎ HasUnit (branch x lo hi) last
  one_of (inl here) = inr (subst (HasUnit (branch x lo hi)) (sym (is ∙ here)) the_cut)
  one_of (inr (inl in_lo)) = from_lo (is ∙ in_lo) of_lo.reached
  one_of (inr (inr in_hi)) = from_hi (is ∙ in_hi) of_hi.reached

  pub last-branch : IsLastUnit (branch x lo hi) last
  last-branch = record {
    most = λ unit has. no_more (units_of_branch lo hi has);
    reached = one_of (max_cases);
  }

-- ---- families that share no unit

-- a unit of a family that lies below another is in no set of the other
pub below-apart : (f g : List (List ℕ)) → LiesBelow f g → ShareNoUnit f g
below-apart f g below unit has has' =
    let h = unit_above _ _ _ (set_above _ _ _ (below unit has) has'.1) has'.2 in omega (arith, h)

pub below-lo : {x : ℕ} {f lo hi : List (List ℕ)} (g : List (List ℕ)) → Cuts x f lo hi → LiesBelow f g → LiesBelow lo g
below-lo g cut below unit has = below unit (lo_unit unit cut has)

pub below-hi : {x : ℕ} {f lo hi : List (List ℕ)} (g : List (List ℕ)) → Cuts x f lo hi → LiesBelow f g → LiesBelow hi g
below-hi g cut below unit has = below unit (hi_unit unit cut has)
