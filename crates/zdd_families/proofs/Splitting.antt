-- A product by splitting: the sets of either family that include one of the other stand alone.
use Rattle.std.specs.Prelude.{◌≡◌, ℕ, Bool, true, ◌&&◌, ◌||◌, List}
use Rattle.std.proofs.Common.{sym, ◌∙◌, inl, inr, arith}
use Rattle.std.proofs.lemmas.Bool.{cases_Bool, false≢true}
use Rattle.unit_sets.specs.UnitList.{some_within}
use Rattle.zdd_families.proofs.WithinLemmas.{HasWithin, HasWithin-from_test, some_within-from_set, some_within-more}
use Rattle.zdd_families.proofs.WithinLemmas.{passes_within}
use Rattle.zdd_families.specs.{Inclusion.includes_one, Inclusion.Includes, Without.IsWithout, Least.IsLeastUnion}
use Rattle.zdd_families.specs.{Least.IsLeastProduct}
use Rattle.zdd_families.proofs.InclusionLemmas.{Includes-from_test, test-from_part, within_itself}
use Rattle.zdd_families.proofs.{LeastLemmas.IsLeastFor-same, LeastNodesLemmas.some_within-left, StepsLemmas.and_of}
use Rattle.zdd_families.proofs.{StepsLemmas.or_of}

-- A family is what is left of it without the other, and the common part: its sets that include one of the other.
module _ {f g rest common : List (List ℕ)} (left : IsWithout f g rest) (split : IsWithout f rest common)
    (within : ℕ → Bool) where
  rest_hits : some_within rest within ≡ true → some_within f within ≡ true
  rest_hits = some_within-more rest f within (λ set has. ((left.sets set).0 has).0)

  pub some_within-split : some_within f within ≡ (some_within rest within || some_within common within)
  some_within-split = let e = some_within-left split within in grind (arith, e, rest_hits)

  includes_other : (found : HasWithin common within) → includes_one g found.set ≡ true
  includes_other found =
      elim (cases_Bool (includes_one g found.set)) [
        | inl t ↦ t
        | inr none ↦
            let both = (split.sets found.set).0 found.has in
            absurd (false≢true (sym both.1 ∙ test-from_part _ _ _
            ((left.sets found.set).1 (both.0, none)) (within_itself found.set)))
      ]

  pub common_hits_other : some_within common within ≡ true → some_within g within ≡ true
  common_hits_other t =
      let found : HasWithin common within = HasWithin-from_test common t in
      let part : Includes g found.set = Includes-from_test g found.set (includes_other found) in
      some_within-from_set g within part.part part.has
      (passes_within within found.set part.part part.within found.passes)

split_cases : (r s r' s' : Bool) → (s ≡ true → (r' || s') ≡ true) → (s' ≡ true → (r || s) ≡ true)
    → ((s || s') || (r && r')) ≡ ((r || s) && (r' || s'))
split_cases r s r' s' h k = grind (arith, h, k)

-- the common parts, and the product of the rests
pub least_product-split : (f g rest rest' common common' alone joined least : List (List ℕ))
    → IsWithout f g rest → IsWithout g f rest' → IsWithout f rest common → IsWithout g rest' common'
    → IsLeastUnion common common' alone → IsLeastProduct rest rest' joined → IsLeastUnion alone joined least
    → IsLeastProduct f g least
least_product-split f g rest rest' common common' alone joined least left left' split split' alone_is joined_is is =
    IsLeastFor-same is (λ within.
    let of_f : some_within f within ≡ (some_within rest within || some_within common within) =
    some_within-split left split within in
    let of_g : some_within g within ≡ (some_within rest' within || some_within common' within) =
    some_within-split left' split' within in
    or_of (alone_is.some_within within) (joined_is.some_within within)
    ∙ split_cases (some_within rest within) (some_within common within) (some_within rest' within)
    (some_within common' within) (λ t. sym of_g ∙ common_hits_other left split within t)
    (λ t. sym of_f ∙ common_hits_other left' split' within t)
    ∙ and_of (sym of_f) (sym of_g))
