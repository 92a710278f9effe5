-- The ends of what is left without the sets that include another, and what is due to the inner operations of it.
use Rattle.std.proofs.Common.{◌≡◌, ◌≢◌, ◌⊎◌, ℕ, zero, suc, ◌==◌, ◌<◌, true, false, List, [], ◌∷◌, Contains, refl, sym}
use Rattle.std.proofs.Common.{◌∙◌, ap, subst, inl, inr, arith}
use Rattle.zdd_families.specs.{Family.IsFamily, Inclusion.includes_one, Inclusion.Includes, Without.IsWithout}
use Rattle.zdd_families.specs.Map.{Knows, IsClosed, family}
use Rattle.zdd_families.proofs.{MapLemmas.family-empty, MapLemmas.family-unit, Canonical.IsFamily-family}
use Rattle.zdd_families.proofs.{InclusionLemmas.includes_one-above, InclusionLemmas.Includes-from_test}
use Rattle.unit_sets.specs.UnitList.{is_within}
use Rattle.zdd_families.proofs.WithoutLemmas.{without-none, without-nothing, without-unit, without-one}
use Rattle.zdd_families.proofs.WithoutLemmas.{unit-without, unit-without_other}
use Rattle.zdd_families.specs.Due.{IsInnerFamily, IsDueToWithout, without_both_lo, without_both_hi}
use Rattle.zdd_families.specs.Due.{without_both_rest, without_first_lo, without_first_hi, without_second}
use Rattle.zdd_product.specs.{Due.IsMadeByWithout, Halves.IsHalved, Seats.KnowsOne}
use Rattle.zdd_product.proofs.Halving.{Cuts-halved, not_both}

-- ---- ends

abbrev pub IsWithoutEnd : ℕ → ℕ → ℕ → Type 0
IsWithoutEnd a b r = ((a ≡ 0) × (r ≡ a)) ⊎ (((b ≡ 0) × (r ≡ a)) ⊎ ((b ≡ 1) × (r ≡ 0)))

module _ (known : ℕ → ℕ) (a b r : ℕ) (closed : IsClosed known) (knows_a : Knows known a) where
  end_known : IsWithoutEnd a b r → Knows known r
  end_known (inl (none, is)) = subst (Knows known) (sym is) knows_a
  end_known (inr (inl (none, is))) = subst (Knows known) (sym is) knows_a
  end_known (inr (inr (unit, is))) = inl (omega arith)

  end_by : {f g h : List (List ℕ)} → family known a ≡ f → family known b ≡ g → family known r ≡ h → IsWithout f g h
      → IsWithout (family known a) (family known b) (family known r)
  end_by {f} {g} {h} at_a at_b at_r is =
      subst (λ h. IsWithout (family known a) (family known b) h) (sym at_r)
      (subst (λ g. IsWithout (family known a) g h) (sym at_b)
      (subst (λ f. IsWithout f g h) (sym at_a) is))

  end_is : IsWithoutEnd a b r → IsWithout (family known a) (family known b) (family known r)
  end_is (inl (none, is)) =
      let at : family known a ≡ [] = ap (family known) none ∙ family-empty known in
      end_by at refl (ap (family known) is ∙ at) (without-none (family known b))
  end_is (inr (inl (none, is))) =
      end_by refl (ap (family known) none ∙ family-empty known)
      (ap (family known) is) (without-nothing (family known a) (IsFamily-family known a closed knows_a))
  end_is (inr (inr (unit, is))) =
      end_by refl (ap (family known) unit ∙ family-unit known)
      (ap (family known) is ∙ family-empty known) (without-unit (family known a))

  pub without_ends : IsWithoutEnd a b r → KnowsOne known r (IsWithout (family known a) (family known b))
  without_ends end = (end_known end, end_is end)

-- ---- the empty set alone

-- the empty set includes no other set
only_empty : (part : List ℕ) → is_within [] part ≡ true → part ≡ []
only_empty [] within = refl
only_empty (unit ∷ part) within = absurd cc

pub has_empty : (g : List (List ℕ)) → includes_one g [] ≡ true → Contains g []
has_empty g test =
    let found : Includes g [] = Includes-from_test g [] test in
    subst (Contains g) (only_empty found.part found.within) found.has

pub unit_empty : (known : ℕ → ℕ) {a : ℕ} (b r : ℕ) → a ≡ 1 → r ≡ 0 → includes_one (family known b) [] ≡ true
    → KnowsOne known r (IsWithout (family known a) (family known b))
unit_empty known {a} b r unit is test = (
  inl (omega arith),
  subst (λ h. IsWithout (family known a) (family known b) h) (sym (ap (family known) is ∙ family-empty known))
      (subst (λ f. IsWithout f (family known b) []) (sym (ap (family known) unit ∙ family-unit known))
      (unit-without (family known b) (has_empty (family known b) test))),
)

pub unit_stays : (known : ℕ → ℕ) {a : ℕ} (b : ℕ) {r : ℕ} → a ≡ 1 → r ≡ 1 → includes_one (family known b) [] ≡ false
    → KnowsOne known r (IsWithout (family known a) (family known b))
unit_stays known {a} b unit is test = (
  inl (omega arith),
  subst (λ h. IsWithout (family known a) (family known b) h) (sym (ap (family known) is ∙ family-unit known))
      (subst (λ f. IsWithout f (family known b) ([] ∷ [])) (sym (ap (family known) unit ∙ family-unit known))
      (unit-without_other (family known b) test)),
)

-- a family has the empty set where its lo has it
pub empty_in_lo : {x : ℕ} {f lo hi : List (List ℕ)} → IsHalved x f lo hi → includes_one f [] ≡ includes_one lo []
empty_in_lo halved = includes_one-above (Cuts-halved halved) [] tt

pub empty_at_end : (known : ℕ → ℕ) (r : ℕ) → r < 2 → (r == 1) ≡ includes_one (family known r) []
empty_at_end known zero small = sym (ap (λ f. includes_one f []) (family-empty known))
empty_at_end known (suc zero) small = sym (ap (λ f. includes_one f []) (family-unit known))
empty_at_end known (suc (suc r)) small = absurd (omega arith)

-- ---- what is due to the inner operations

all_left : {f g w : List (List ℕ)} → IsFamily f → g ≡ [] → IsWithout f g w → w ≡ f
all_left {f} {w} is_family none is =
    without-one f [] w f (subst (λ q. IsWithout f q w) none is) (without-nothing f is_family)

none_left : {f g w : List (List ℕ)} → f ≡ [] → IsWithout f g w → w ≡ []
none_left {g} {w} none is = without-one [] g w [] (subst (λ q. IsWithout q g w) none is) (without-none g)

module _ (x : ℕ) {f : List (List ℕ)} (f0 : List (List ℕ)) {f1 g : List (List ℕ)} (g0 : List (List ℕ))
    {g1 : List (List ℕ)} (inner : IsInnerFamily f) (inner' : IsInnerFamily g)
    (one : (f1 ≢ []) ⊎ (g1 ≢ [])) (hi_family : IsFamily f1) where
  due_lo : {due : List (List ℕ)} → IsHalved x f f0 f1 → IsHalved x g g0 g1 → IsDueToWithout f0 g0 due
      → IsDueToWithout f g due
  due_lo (inl splits) (inl splits') d = without_both_lo inner inner' splits splits' d
  due_lo {due} (inl splits) (inr higher) d =
      without_first_lo inner inner' splits higher.above (subst (λ q. IsDueToWithout f0 q due) higher.lo_is d)
  due_lo {due} (inr higher) (inl splits) d =
      without_second inner inner' splits higher.above (subst (λ q. IsDueToWithout q g0 due) higher.lo_is d)
  due_lo (inr higher) (inr higher') d = not_both one higher.hi_is higher'.hi_is

  due_hi : {due : List (List ℕ)} → IsHalved x f f0 f1 → IsHalved x g g0 g1 → IsMadeByWithout f1 g1 due
      → IsDueToWithout f g due
  due_hi (inl splits) (inl splits') made = without_both_hi inner inner' splits splits' made.2
  due_hi (inl splits) (inr higher) made = absurd (made.1.not_none higher.hi_is)
  due_hi (inr higher) halved made = absurd (made.0.not_none higher.hi_is)

  due_rest : {due w : List (List ℕ)} → IsHalved x f f0 f1 → IsHalved x g g0 g1 → IsWithout f1 g1 w
      → IsMadeByWithout w g0 due → IsDueToWithout f g due
  due_rest (inl splits) (inl splits') some made = without_both_rest inner inner' splits splits' some made.2
  due_rest {due} {w} (inl splits) (inr higher) some made =
      without_first_hi inner inner' splits higher.above
      (subst (λ q. IsDueToWithout q g due) (all_left hi_family higher.hi_is some)
      (subst (λ q. IsDueToWithout w q due) higher.lo_is made.2))
  due_rest (inr higher) halved some made = absurd (made.0.not_none (none_left higher.hi_is some))

  module _ (halved : IsHalved x f f0 f1) (halved' : IsHalved x g g0 g1) where
    pub without_makes_lo : (due : List (List ℕ)) → IsMadeByWithout f0 g0 due → IsMadeByWithout f g due
    without_makes_lo due made = (inner, inner', due_lo halved halved' made.2)

    pub without_makes_hi : {due : List (List ℕ)} → IsMadeByWithout f1 g1 due → IsMadeByWithout f g due
    without_makes_hi made = (inner, inner', due_hi halved halved' made)

    pub without_makes_rest : {w : List (List ℕ)} → IsWithout f1 g1 w → {due : List (List ℕ)} → IsMadeByWithout w g0 due
        → IsMadeByWithout f g due
    without_makes_rest some made = (inner, inner', due_rest halved halved' some made)
