-- The size of a branch, and the sizes that are found on the way to it.
use Rattle.std.proofs.Common.{◌≡◌, ◌≢◌, ℕ, ◌+◌, ◌*◌, ◌<◌, ◌≤◌, List, [], ◌∷◌, length, refl, sym, ◌∙◌}
use Rattle.std.proofs.Common.{ap, subst, arith, length-append}
use Rattle.std.specs.Prelude.{Result, Ok, Err, IfOk, OnOk}
use Rattle.unit_sets.specs.{CutOrder.weight, CutOrder.weight_limit, declared.refusal.ListEnd.ListEnd}
use Rattle.zdd_families.specs.{Family.branch, Family.each_with, Map.family}
use Rattle.zdd_families.proofs.MapLemmas.{family-empty, family-unit}
use Rattle.cutset_listing.specs.{FamilySizes.IsSizeOf, declared.measure.FamilySize.FamilySize}
use Rattle.cutset_listing.proofs.Behind.{parts_weigh_less, weight-parts, weight-cons}

-- ---- how many sets a branch has

length-each_with : (x : ℕ) (f : List (List ℕ)) → length (each_with x f) ≡ length f
length-each_with x [] = refl
length-each_with x (set ∷ f) = let rest = length-each_with x f in omega (arith, rest)

pub length-branch : (x : ℕ) (lo hi : List (List ℕ)) → length (branch x lo hi) ≡ length lo + length hi
length-branch x [] hi = let e = length-each_with x hi in omega (arith, e)
length-branch x ([] ∷ others) hi =
    let e = length-append (each_with x hi) others in let e' = length-each_with x hi in omega (arith, e, e')
length-branch x ((unit ∷ set) ∷ others) hi =
    let e = length-append (each_with x hi) ((unit ∷ set) ∷ others) in
    let e' = length-each_with x hi in
    omega (arith, e, e')

-- each set weighs one at least
pub light_count : (f : List (List ℕ)) → length f ≤ weight f
light_count [] = omega arith
light_count (set ∷ f) = let rest = light_count f in let e = weight-cons set f in omega (arith, rest, e)

-- ---- a node and its parts

pub empty_size : (known : ℕ → ℕ) (r : ℕ) → r ≡ 0 → IsSizeOf (family known r) (record { sets = 0; weight = 0 })
empty_size known r is =
    subst (λ f. IsSizeOf f (record { sets = 0; weight = 0 })) (sym (ap (family known) is ∙ family-empty known))
    (record { count = refl; weighs = refl; light = omega arith })

pub unit_size : (known : ℕ → ℕ) (r : ℕ) → r ≡ 1 → IsSizeOf (family known r) (record { sets = 1; weight = 1 })
unit_size known r is =
    subst (λ f. IsSizeOf f (record { sets = 1; weight = 1 })) (sym (ap (family known) is ∙ family-unit known))
    (record { count = refl; weighs = refl; light = omega arith })

-- the family of a reference is the branch of those of two others, of which the second has sets
pub record IsParted (known : ℕ → ℕ) (r x lo hi : ℕ) : Type 0 where
  pub branch : family known r ≡ branch x (family known lo) (family known hi)
  pub filled : family known hi ≢ []

module _ {known : ℕ → ℕ} {r x lo hi : ℕ} (parts : IsParted known r x lo hi) where
  weight_of_parts : weight (family known r) ≡ weight (family known lo) + (weight (family known hi)
      + length (family known hi))
  weight_of_parts = ap weight parts.branch ∙ weight-parts x (family known lo) (family known hi)

  both_less : weight (family known lo) + weight (family known hi) < weight (family known r)
  both_less =
      let e = ap weight parts.branch in
      let less = parts_weigh_less x (family known lo) parts.filled in
      omega (arith, e, less)

  pub lo_less : 2 * weight (family known lo) + 1 < 2 * weight (family known r)
  lo_less = let less = both_less in omega (arith, less)

  pub hi_less : 2 * weight (family known hi) + 1 < 2 * weight (family known r)
  hi_less = let less = both_less in omega (arith, less)

  pub hi_heavy : weight_limit < weight (family known hi) → weight_limit < weight (family known r)
  hi_heavy heavy = let less = both_less in omega (arith, less, heavy)

  module _ (of_lo of_hi : FamilySize) (lo_is : IsSizeOf (family known lo) of_lo)
      (hi_is : IsSizeOf (family known hi) of_hi) where
    pub few_sets : (of_lo.sets ≤ of_lo.weight) × (of_hi.sets ≤ of_hi.weight)
    few_sets =
        let a = light_count (family known lo) in
        let b = light_count (family known hi) in
        let c = lo_is.count in let d = lo_is.weighs in let e = hi_is.count in let f = hi_is.weighs in
        (omega (arith, a, c, d), omega (arith, b, e, f))

    weighs_so : weight (family known r) ≡ of_lo.weight + (of_hi.weight + of_hi.sets)
    weighs_so =
        let a = weight_of_parts in
        let b = lo_is.weighs in let c = hi_is.weighs in let d = hi_is.count in
        omega (arith, a, b, c, d)

    pub both_heavy : weight_limit < of_lo.weight + (of_hi.weight + of_hi.sets)
        → weight_limit < weight (family known r)
    both_heavy heavy = let a = weighs_so in omega (arith, a, heavy)

    pub size_of_parts : {size : FamilySize} → size.sets ≡ of_lo.sets + of_hi.sets
        → size.weight ≡ of_lo.weight + (of_hi.weight + of_hi.sets)
        → of_lo.weight + (of_hi.weight + of_hi.sets) ≤ weight_limit → IsSizeOf (family known r) size
    size_of_parts sets weighs light =
        let a = ap length parts.branch ∙ length-branch x (family known lo) (family known hi) in
        let b = lo_is.count in let c = hi_is.count in let d = weighs_so in
        record {
          count = omega (arith, sets, a, b, c);
          weighs = omega (arith, weighs, d);
          light = omega (arith, light, d);
        }

    pub sized_of_parts : (result : Result FamilySize ListEnd)
        → IfOk result (λ size. size.sets ≡ of_lo.sets + of_hi.sets)
        → IfOk result (λ size. size.weight ≡ of_lo.weight + (of_hi.weight + of_hi.sets))
        → OnOk result (of_lo.weight + (of_hi.weight + of_hi.sets) ≤ weight_limit)
        → IfOk result (IsSizeOf (family known r))
    sized_of_parts (Ok size) sets weighs light = size_of_parts sets weighs light
    sized_of_parts (Err end) sets weighs light = tt
