-- The ends of products, and what is due to the inner operations of one.
use Rattle.std.proofs.Common.{◌≡◌, ◌≢◌, ◌⊎◌, ℕ, List, [], refl, sym, ◌∙◌, ap, subst, inl, inr}
use Rattle.zdd_families.proofs.{FamilyLemmas.IsFamily-nil, MapLemmas.family-empty, MapLemmas.family-unit}
use Rattle.zdd_families.proofs.{Canonical.IsFamily-family, UnionLemmas.union-none, UnionLemmas.union-one}
use Rattle.zdd_families.specs.Map.{Knows, IsClosed, family}
use Rattle.zdd_families.specs.{Union.IsUnion, Product.IsProduct}
use Rattle.zdd_families.proofs.ProductLemmas.{product-none, product-with_none, product-unit, product-with_unit}
use Rattle.zdd_families.proofs.ProductLemmas.{product-one}
use Rattle.zdd_families.specs.Due.{IsInnerFamily, IsDueToProduct, product_both_lo, product_both_hi, product_hi_lo}
use Rattle.zdd_families.specs.Due.{product_lo_hi, product_two, product_three, product_first_lo, product_first_hi}
use Rattle.zdd_families.specs.Due.{product_second_lo, product_second_hi}
use Rattle.zdd_product.specs.Due.{IsMadeByProduct, IsMadeByUnion, IsMadeWith, with_both, with_first, with_some}
use Rattle.zdd_product.specs.Due.{with_second, with_all}
use Rattle.zdd_product.specs.{Halves.IsHalved, Seats.KnowsOne}
use Rattle.zdd_product.proofs.Halving.{not_both}

-- ---- ends

abbrev pub IsProductEnd : ℕ → ℕ → ℕ → Type 0
IsProductEnd a b r = ((a ≡ 0) × (r ≡ a)) ⊎ (((b ≡ 1) × (r ≡ a)) ⊎ (((b ≡ 0) × (r ≡ b)) ⊎ ((a ≡ 1) × (r ≡ b))))

module _ (known : ℕ → ℕ) (a b r : ℕ) (closed : IsClosed known) (knows_a : Knows known a) (knows_b : Knows known b) where
  end_known : IsProductEnd a b r → Knows known r
  end_known (inl (none, is)) = subst (Knows known) (sym is) knows_a
  end_known (inr (inl (unit, is))) = subst (Knows known) (sym is) knows_a
  end_known (inr (inr (inl (none, is)))) = subst (Knows known) (sym is) knows_b
  end_known (inr (inr (inr (unit, is)))) = subst (Knows known) (sym is) knows_b

  -- the families of both operands and of the answer
  end_by : {f g h : List (List ℕ)} → family known a ≡ f → family known b ≡ g → family known r ≡ h → IsProduct f g h
      → IsProduct (family known a) (family known b) (family known r)
  end_by {f} {g} {h} at_a at_b at_r is =
      subst (λ h. IsProduct (family known a) (family known b) h) (sym at_r)
      (subst (λ g. IsProduct (family known a) g h) (sym at_b)
      (subst (λ f. IsProduct f g h) (sym at_a) is))

  end_is : IsProductEnd a b r → IsProduct (family known a) (family known b) (family known r)
  end_is (inl (none, is)) =
      let at : family known a ≡ [] = ap (family known) none ∙ family-empty known in
      end_by at refl (ap (family known) is ∙ at) (product-none (family known b))
  end_is (inr (inl (unit, is))) =
      end_by refl (ap (family known) unit ∙ family-unit known)
      (ap (family known) is) (product-with_unit (family known a) (IsFamily-family known a closed knows_a))
  end_is (inr (inr (inl (none, is)))) =
      let at : family known b ≡ [] = ap (family known) none ∙ family-empty known in
      end_by refl at (ap (family known) is ∙ at) (product-with_none (family known a))
  end_is (inr (inr (inr (unit, is)))) =
      end_by (ap (family known) unit ∙ family-unit known) refl
      (ap (family known) is) (product-unit (family known b) (IsFamily-family known b closed knows_b))

  pub product_ends : IsProductEnd a b r → KnowsOne known r (IsProduct (family known a) (family known b))
  product_ends end = (end_known end, end_is end)

-- ---- the product with no sets has none

product_of_none : {f g h : List (List ℕ)} → f ≡ [] → IsProduct f g h → h ≡ []
product_of_none {g} {h} none is = product-one [] g h [] (subst (λ q. IsProduct q g h) none is) (product-none g)

product_with_none : {f g h : List (List ℕ)} → g ≡ [] → IsProduct f g h → h ≡ []
product_with_none {f} {h} none is = product-one f [] h [] (subst (λ q. IsProduct f q h) none is) (product-with_none f)

union_of_none : {f g h : List (List ℕ)} → f ≡ [] → g ≡ [] → IsUnion f g h → h ≡ []
union_of_none {g} {h} none none' is =
    union-one [] [] h [] (subst (λ q. IsUnion [] q h) none' (subst (λ q. IsUnion q g h) none is))
    (union-none [] IsFamily-nil)

-- ---- what is due to the inner operations

module _ (x : ℕ) {f : List (List ℕ)} (f0 : List (List ℕ)) {f1 g : List (List ℕ)} (g0 : List (List ℕ))
    {g1 : List (List ℕ)} (inner : IsInnerFamily f) (inner' : IsInnerFamily g)
    (one : (f1 ≢ []) ⊎ (g1 ≢ [])) where
  due_lo : {due : List (List ℕ)} → IsHalved x f f0 f1 → IsHalved x g g0 g1 → IsDueToProduct f0 g0 due
      → IsDueToProduct f g due
  due_lo (inl splits) (inl splits') d = product_both_lo inner inner' splits splits' d
  due_lo {due} (inl splits) (inr higher) d =
      product_first_lo inner inner' splits higher.above (subst (λ q. IsDueToProduct f0 q due) higher.lo_is d)
  due_lo {due} (inr higher) (inl splits) d =
      product_second_lo inner inner' splits higher.above (subst (λ q. IsDueToProduct q g0 due) higher.lo_is d)
  due_lo (inr higher) (inr higher') d = not_both one higher.hi_is higher'.hi_is

  due_both : {due : List (List ℕ)} → IsHalved x f f0 f1 → IsHalved x g g0 g1 → IsMadeByProduct f1 g1 due
      → IsDueToProduct f g due
  due_both (inl splits) (inl splits') made = product_both_hi inner inner' splits splits' made.2
  due_both (inl splits) (inr higher) made = absurd (made.1.not_none higher.hi_is)
  due_both (inr higher) halved made = absurd (made.0.not_none higher.hi_is)

  due_first : {due : List (List ℕ)} → IsHalved x f f0 f1 → IsHalved x g g0 g1 → IsMadeByProduct f1 g0 due
      → IsDueToProduct f g due
  due_first (inl splits) (inl splits') made = product_hi_lo inner inner' splits splits' made.2
  due_first {due} (inl splits) (inr higher) made =
      product_first_hi inner inner' splits higher.above (subst (λ q. IsDueToProduct f1 q due) higher.lo_is made.2)
  due_first (inr higher) halved made = absurd (made.0.not_none higher.hi_is)

  due_second : {due : List (List ℕ)} → IsHalved x f f0 f1 → IsHalved x g g0 g1 → IsMadeByProduct f0 g1 due
      → IsDueToProduct f g due
  due_second (inl splits) (inl splits') made = product_lo_hi inner inner' splits splits' made.2
  due_second {due} (inr higher) (inl splits) made =
      product_second_hi inner inner' splits higher.above (subst (λ q. IsDueToProduct q g1 due) higher.lo_is made.2)
  due_second halved (inr higher) made = absurd (made.1.not_none higher.hi_is)

  due_some : {due p q : List (List ℕ)} → IsHalved x f f0 f1 → IsHalved x g g0 g1 → IsProduct f1 g1 p → IsProduct f1 g0 q
      → IsMadeByUnion p q due → IsDueToProduct f g due
  due_some (inl splits) (inl splits') both first made = product_two inner inner' splits splits' both first made.1
  due_some (inl splits) (inr higher) both first made = absurd (made.0.first_some (product_with_none higher.hi_is both))
  due_some (inr higher) halved both first made = absurd (made.0.first_some (product_of_none higher.hi_is both))

  due_all : {due p q u r : List (List ℕ)} → IsHalved x f f0 f1 → IsHalved x g g0 g1 → IsProduct f1 g1 p
      → IsProduct f1 g0 q → IsUnion p q u → IsProduct f0 g1 r → IsMadeByUnion u r due → IsDueToProduct f g due
  due_all (inl splits) (inl splits') both first some second made =
      product_three inner inner' splits splits' both first some second made.1
  due_all (inl splits) (inr higher) both first some second made =
      absurd (made.0.second_some (product_with_none higher.hi_is second))
  due_all (inr higher) halved both first some second made =
      absurd (made.0.first_some (union_of_none (product_of_none higher.hi_is both)
      (product_of_none higher.hi_is first) some))

  module _ (halved : IsHalved x f f0 f1) (halved' : IsHalved x g g0 g1) where
    pub product_makes_lo : (due : List (List ℕ)) → IsMadeByProduct f0 g0 due → IsMadeByProduct f g due
    product_makes_lo due made = (inner, inner', due_lo halved halved' made.2)

    due_with : {due : List (List ℕ)} → IsMadeWith f0 f1 g0 g1 due → IsDueToProduct f g due
    due_with (with_both made) = due_both halved halved' made
    due_with (with_first made) = due_first halved halved' made
    due_with (with_some {p = p} {q = q} both first made) = due_some halved halved' both first made
    due_with (with_second made) = due_second halved halved' made
    due_with (with_all {p = p} {q = q} {u = u} {r = r} both first some second made) =
        due_all halved halved' both first some second made

    pub product_makes_with : {due : List (List ℕ)} → IsMadeWith f0 f1 g0 g1 due → IsMadeByProduct f g due
    product_makes_with made = (inner, inner', due_with made)
