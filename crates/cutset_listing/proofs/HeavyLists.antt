-- The sets of any family, the smaller ones first, are a list in the order of cut sets.
use Rattle.std.proofs.Common.{◌≡◌, ℕ, suc, ◌<◌, false, List, [], ◌∷◌, length, map, refl, sym, ap, ◌∙◌, inl, inr, arith}
use Rattle.std.specs.Prelude.{◌==◌, max, if◌then◌else◌}
use Rattle.std.specs.List.{range_with_len}
use Rattle.std.proofs.{lemmas.Bool.cases_lt, lemmas.List.get_or_past, lemmas.List.FromFn.get_or-map-range_with_len}
use Rattle.std.proofs.{lemmas.List.FromFn.length-map-range_with_len}
use Rattle.unit_sets.specs.CutOrder.{IsInCutOrder, weight, weight_limit}
use Rattle.zdd_families.specs.Family.{IsFamily}
use Rattle.cutset_listing.specs.BySize.{at_size, joined, of_size}
use Rattle.cutset_listing.specs.Listing.{HasHeavyList, HasSetsOf}
use Rattle.cutset_listing.proofs.Sizes.{joined-in_order, joined-sets, length-joined, weight-joined}

-- a list of exactly the family's sets in the order of cut sets, as many and as heavy as these
pub record HasList (family : List (List ℕ)) : Type 0 where
  pub list : List (List ℕ)
  pub sets : HasSetsOf family list
  pub ordered : IsInCutOrder list
  pub as_many : length list ≡ length family
  pub as_heavy : weight list ≡ weight family

-- the size of the largest set
abbrev longest : List (List ℕ) → ℕ
longest [] = 0
longest (set ∷ sets) = max (length set) (longest sets)

none_longer : (size : ℕ) (family : List (List ℕ)) → longest family < size → of_size size family ≡ []
none_longer size [] long = refl
none_longer size (set ∷ sets) long =
    let shorter : length set < size = omega arith in
    let differs : (length set == size) ≡ false = grind arith in
    ap (λ b. if b then set ∷ of_size size sets else of_size size sets) differs ∙ none_longer size sets (omega arith)

module _ (family : List (List ℕ)) where
  sizes : List (List (List ℕ))
  sizes = map (λ size. of_size size family) (range_with_len 0 (suc (longest family)))

  each_size : (size : ℕ) → at_size sizes size ≡ of_size size family
  unfolding sizes
  each_size size = elim (cases_lt size (suc (longest family))) [
    | inl within ↦ get_or-map-range_with_len (λ n. of_size n family) 0 (suc (longest family)) size size [] within
        (omega arith)
    | inr past ↦
        get_or_past sizes size [] (omega (
          arith,
          past,
          length-map-range_with_len (λ n. of_size n family) 0 (suc (longest family)),
        ))
        ∙ sym (none_longer size family (omega arith))
  ]

  pub in_a_list : IsFamily family → HasList family
  in_a_list is = record {
    list = joined sizes;
    sets = joined-sets sizes family each_size;
    ordered = joined-in_order sizes family each_size is;
    as_many = length-joined sizes family each_size;
    as_heavy = weight-joined sizes family each_size;
  }

  pub heavy_list : IsFamily family → weight_limit < weight family → HasHeavyList family
  heavy_list is heavy =
      let has = in_a_list is in
      let same = has.as_heavy in
      record { list = has.list; sets = has.sets; ordered = has.ordered; heavy = omega (arith, same, heavy) }
