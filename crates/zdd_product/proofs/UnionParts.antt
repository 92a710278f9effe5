-- The steps of the recursion of unions.
use Rattle.std.proofs.Common.{◌≡◌, ◌≢◌, ◌⊎◌, ℕ, List, [], sym, ◌∙◌, ap, subst, inl, inr}
use Rattle.zdd_families.specs.Map.{Knows, IsClosed, IsUnique, family}
use Rattle.zdd_families.proofs.{MapLemmas.family-empty, Canonical.family-filled, Canonical.IsFamily-family}
use Rattle.zdd_families.proofs.{References.different_families}
use Rattle.zdd_families.specs.Union.{IsUnion}
use Rattle.zdd_families.proofs.UnionLemmas.{union-none, union-with_none, union-itself}
use Rattle.zdd_families.specs.Due.{GoesOn, IsDueToUnion, union_both_lo, union_both_hi, union_first, union_second}
use Rattle.zdd_product.specs.{Due.IsMadeByUnion, Halves.IsHalved, Seats.KnowsOne}
use Rattle.zdd_product.proofs.Halving.{not_both}

-- ---- ends

abbrev pub IsUnionEnd : ℕ → ℕ → ℕ → Type 0
IsUnionEnd a b r = ((a ≡ 0) × (r ≡ b)) ⊎ ((b ≡ 0) × (r ≡ a)) ⊎ ((a ≡ b) × (r ≡ a))

module _ (known : ℕ → ℕ) (a b r : ℕ) (closed : IsClosed known) (knows_a : Knows known a) (knows_b : Knows known b) where
  end_known : IsUnionEnd a b r → Knows known r
  end_known (inl (none, is)) = subst (Knows known) (sym is) knows_b
  end_known (inr (inl (none, is))) = subst (Knows known) (sym is) knows_a
  end_known (inr (inr (same, is))) = subst (Knows known) (sym is) knows_a

  end_is : IsUnionEnd a b r → IsUnion (family known a) (family known b) (family known r)
  end_is (inl (none, is)) =
      subst (λ f. IsUnion f (family known b) (family known r)) (sym (ap (family known) none ∙ family-empty known))
      (subst (λ q. IsUnion [] (family known b) (family known q)) (sym is)
      (union-none (family known b) (IsFamily-family known b closed knows_b)))
  end_is (inr (inl (none, is))) =
      subst (λ g. IsUnion (family known a) g (family known r)) (sym (ap (family known) none ∙ family-empty known))
      (subst (λ q. IsUnion (family known a) [] (family known q)) (sym is)
      (union-with_none (family known a) (IsFamily-family known a closed knows_a)))
  end_is (inr (inr (same, is))) =
      subst (λ q. IsUnion (family known a) (family known q) (family known r)) same
      (subst (λ q. IsUnion (family known a) (family known a) (family known q)) (sym is)
      (union-itself (family known a) (IsFamily-family known a closed knows_a)))

  pub union_ends : IsUnionEnd a b r → KnowsOne known r (IsUnion (family known a) (family known b))
  union_ends end = (end_known end, end_is end)

pub union_goes_on : (known : ℕ → ℕ) {a b : ℕ} → IsClosed known → IsUnique known → Knows known a → Knows known b → a ≢ 0
    → b ≢ 0 → a ≢ b → GoesOn (family known a) (family known b)
union_goes_on known {a} {b} closed unique knows_a knows_b some some' differ = record {
  first_some = family-filled known a closed knows_a some;
  second_some = family-filled known b closed knows_b some';
  differ = different_families known closed unique knows_a knows_b differ;
}

-- ---- what is due to the inner unions

module _ (x : ℕ) {f : List (List ℕ)} (f0 : List (List ℕ)) {f1 g : List (List ℕ)} (g0 : List (List ℕ))
    {g1 : List (List ℕ)} (goes : GoesOn f g) (one : (f1 ≢ []) ⊎ (g1 ≢ [])) where
  due_lo : {due : List (List ℕ)} → IsHalved x f f0 f1 → IsHalved x g g0 g1 → IsDueToUnion f0 g0 due
      → IsDueToUnion f g due
  due_lo (inl splits) (inl splits') d = union_both_lo goes splits splits' d
  due_lo {due} (inl splits) (inr higher) d =
      union_first goes splits higher.above (subst (λ q. IsDueToUnion f0 q due) higher.lo_is d)
  due_lo {due} (inr higher) (inl splits) d =
      union_second goes splits higher.above (subst (λ q. IsDueToUnion q g0 due) higher.lo_is d)
  due_lo (inr higher) (inr higher') d = not_both one higher.hi_is higher'.hi_is

  due_hi : {due : List (List ℕ)} → IsHalved x f f0 f1 → IsHalved x g g0 g1 → GoesOn f1 g1 → IsDueToUnion f1 g1 due
      → IsDueToUnion f g due
  due_hi (inl splits) (inl splits') goes' d = union_both_hi goes splits splits' d
  due_hi (inl splits) (inr higher) goes' d = absurd (goes'.second_some higher.hi_is)
  due_hi (inr higher) halved goes' d = absurd (goes'.first_some higher.hi_is)

  pub union_makes_lo : IsHalved x f f0 f1 → IsHalved x g g0 g1 → (due : List (List ℕ)) → IsMadeByUnion f0 g0 due
      → IsMadeByUnion f g due
  union_makes_lo halved halved' due made = (goes, due_lo halved halved' made.1)

  pub union_makes_hi : IsHalved x f f0 f1 → IsHalved x g g0 g1 → {due : List (List ℕ)} → IsMadeByUnion f1 g1 due
      → IsMadeByUnion f g due
  union_makes_hi halved halved' made = (goes, due_hi halved halved' made.0 made.1)
