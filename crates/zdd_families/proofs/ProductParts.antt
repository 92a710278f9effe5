-- Two families have a product, and each of its parts is due to the product or a part of one of them.
use Rattle.std.specs.Prelude.{◌≡◌, ℕ, zero, suc, true, List, []}
use Rattle.std.proofs.Common.{sym, ◌∙◌, subst, inl, inr}
use Rattle.std.proofs.lemmas.Bool.{or_cases}
use Rattle.unit_sets.specs.UnitList.{among}
use Rattle.zdd_families.specs.{Family.IsFamily, Family.branch, Nodes.IsReached, Union.IsUnion, Spans.Spans}
use Rattle.zdd_families.specs.Due.{Splits, IsInnerFamily, IsDueToUnion, IsDueToProduct, product_itself, product_both_lo}
use Rattle.zdd_families.specs.Due.{product_both_hi, product_hi_lo, product_lo_hi, product_two, product_three}
use Rattle.zdd_families.specs.Due.{product_first_lo, product_first_hi, product_second_lo, product_second_hi}
use Rattle.zdd_families.specs.Product.{IsProduct, IsJoin}
use Rattle.zdd_families.proofs.ProductLemmas.{product-one, product-none}
use Rattle.zdd_families.proofs.ProductLemmas.{product-with_none, product-unit, product-with_unit, product-above}
use Rattle.zdd_families.proofs.ProductLemmas.{product-step}
use Rattle.zdd_families.proofs.SetsLemmas.{among-joined}
use Rattle.zdd_families.proofs.UnionLemmas.{union-one, union-none, union-with_none}
use Rattle.zdd_families.proofs.Parts.{Kind, is_none, is_unit, is_inner, kind_of_family, reached_same, reached-none}
use Rattle.zdd_families.proofs.Parts.{PartAt, itself, of_lo, of_hi, part_at, part-lo, part-hi, CutKind, whole}
use Rattle.zdd_families.proofs.Parts.{cut_off, cut_kind, Origin, is_due, of_first, of_second, origin-map}
use Rattle.zdd_families.proofs.SpansLemmas.{no_span, Halves, halves, spans-cut}
use Rattle.zdd_families.proofs.UnionParts.{HasUnion, union-exists, union-parts}

pub Spans-product : {low size : ℕ} {f g h : List (List ℕ)} → Spans low size f → Spans low size g → IsProduct f g h
    → Spans low size h
Spans-product {low} {f} {g} s t is = record {
  is_family = is.is_family;
  above = product-above low is s.above t.above;
  below = λ set has unit member.
      let join : IsJoin f g set = (is.sets set).0 has in
      elim (or_cases (among join.first unit) (among join.second unit)
      (sym (among-joined join.first join.second unit)
      ∙ subst (λ (q : List ℕ). among q unit ≡ true) join.is member)) [
        | inl of_f ↦ s.below join.first join.of_f unit of_f
        | inr of_g ↦ t.below join.second join.of_g unit of_g
      ];
}

-- ---- there is a product

pub record HasProduct (low size : ℕ) (f g : List (List ℕ)) : Type 0 where
  pub product : List (List ℕ)
  pub is : IsProduct f g product
  pub spans : Spans low size product

abbrev Comes : List (List ℕ) → List (List ℕ) → List (List ℕ) → Type 0
Comes f g part = Origin (IsDueToProduct f g part) f g part

-- and where its parts come from
record Made (low size : ℕ) (f g : List (List ℕ)) : Type 0 where
  has : HasProduct low size f g
  parts : (part : List (List ℕ)) → IsReached has.product part → Comes f g part

-- the product has no sets or is one of both families, or neither is an end
data End (f g : List (List ℕ)) : Type 0 where
  nothing : IsProduct f g [] → End f g
  first : IsProduct f g f → End f g
  second : IsProduct f g g → End f g
  goes_on : IsInnerFamily f → IsInnerFamily g → End f g

ends : {f g : List (List ℕ)} → IsFamily f → IsFamily g → Kind f → Kind g → End f g
ends {g} is is' (is_none none) kind = nothing (rw none (product-none g))
ends {g} is is' (is_unit unit) kind = second (rw unit (product-unit g is'))
ends {f} is is' (is_inner inner) (is_none none) = nothing (rw none (product-with_none f))
ends {f} is is' (is_inner inner) (is_unit unit) = first (rw unit (product-with_unit f is))
ends is is' (is_inner inner) (is_inner inner') = goes_on inner inner'

made_with : {low size : ℕ} {f g h : List (List ℕ)} → Spans low size f → Spans low size g → IsProduct f g h
    → ((part : List (List ℕ)) → IsReached h part → Comes f g part) → Made low size f g
made_with {h} s t is parts =
    record { has = record { product = h; is = is; spans = Spans-product s t is }; parts = parts }

made_by : {low size : ℕ} {f g : List (List ℕ)} → Spans low size f → Spans low size g → End f g
    → (IsInnerFamily f → IsInnerFamily g → Made low size f g) → Made low size f g
made_by s t (nothing is) on = made_with s t is (λ part reached. reached-none reached)
made_by s t (first is) on = made_with s t is (λ part reached. of_first reached)
made_by s t (second is) on = made_with s t is (λ part reached. of_second reached)
made_by s t (goes_on inner inner') on = on inner inner'

pub no_inner : {G : Type 0} {low : ℕ} {f : List (List ℕ)} → Spans low zero f → IsInnerFamily f → G
no_inner {f} s inner =
    elim (no_span f s) [ inl none ↦ absurd (inner.not_none none) | inr unit ↦ absurd (inner.not_unit unit) ]

-- of families without sets nothing is united
none_united : {p q u : List (List ℕ)} → IsUnion p q u → p ≡ [] → IsFamily q → u ≡ q
none_united {p} {q} {u} is none family = union-one p q u q is (rw none (union-none q family))

none_united_right : {p q u : List (List ℕ)} → IsUnion p q u → q ≡ [] → IsFamily p → u ≡ p
none_united_right {p} {q} {u} is none family = union-one p q u p is (rw none (union-with_none p family))

-- nor is a product made with them
no_product : {f g h : List (List ℕ)} → IsProduct f g h → f ≡ [] → h ≡ []
no_product {f} {g} {h} is none = product-one f g h [] is (rw none (product-none g))

no_product_right : {f g h : List (List ℕ)} → IsProduct f g h → g ≡ [] → h ≡ []
no_product_right {f} {g} {h} is none = product-one f g h [] is (rw none (product-with_none f))

due_lo : {x : ℕ} {f f0 f1 g g0 g1 part : List (List ℕ)} → IsInnerFamily f → IsInnerFamily g → CutKind x f f0 f1
    → CutKind x g g0 g1 → IsDueToProduct f0 g0 part → IsDueToProduct f g part
due_lo inner inner' (whole e above none) (whole e' above' none') due = rw (e, e') due
due_lo inner inner' (whole e above none) (cut_off s) due = product_second_lo inner inner' s above (rw e due)
due_lo inner inner' (cut_off s) (whole e above none) due = product_first_lo inner inner' s above (rw e due)
due_lo inner inner' (cut_off s) (cut_off s') due = product_both_lo inner inner' s s' due

module _ {low size : ℕ} {f g : List (List ℕ)} (s : Spans low (suc size) f) (t : Spans low (suc size) g)
    (a : Halves low size f) (b : Halves low size g) (lo : Made (suc low) size a.lo b.lo)
    (both : Made (suc low) size a.hi b.hi) (first : Made (suc low) size a.hi b.lo)
    (second : Made (suc low) size a.lo b.hi) where
  -- the three products with the unit, united
  some : HasUnion (suc low) size both.has.product first.has.product
  some = union-exists size both.has.spans first.has.spans

  all : HasUnion (suc low) size some.union second.has.product
  all = union-exists size some.spans second.has.spans

  is_product : IsProduct f g (branch (suc low) lo.has.product all.union)
  is_product =
      product-step (suc low) f a.lo a.hi g b.lo b.hi lo.has.product all.union a.cut b.cut b.lo_spans.is_family
      b.hi_spans.is_family (record {
        both_with = both.has.product;
        first_with = first.has.product;
        second_with = second.has.product;
        some_with = some.union;
        none_is = lo.has.is;
        both_is = both.has.is;
        first_is = first.has.is;
        second_is = second.has.is;
        some_is = some.is;
        all_is = all.is;
      })

  -- where f has no sets with the unit, those of the product come from the other's
  all_second : a.hi ≡ [] → all.union ≡ second.has.product
  all_second none =
      none_united all.is (none_united some.is (no_product both.has.is none) first.has.spans.is_family
      ∙ no_product first.has.is none) second.has.spans.is_family

  -- where g has none, from those of f
  all_first : b.hi ≡ [] → all.union ≡ first.has.product
  all_first none =
      none_united_right all.is (no_product_right second.has.is none) some.spans.is_family
      ∙ none_united some.is (no_product_right both.has.is none) first.has.spans.is_family

  module _ (inner : IsInnerFamily f) (inner' : IsInnerFamily g) {part : List (List ℕ)} where
    from_both : Splits (suc low) f a.lo a.hi → Splits (suc low) g b.lo b.hi
        → Origin (IsDueToUnion both.has.product first.has.product part) both.has.product first.has.product part
        → Comes f g part
    from_both u v (is_due due) = is_due (product_two inner inner' u v both.has.is first.has.is due)
    from_both u v (of_first reached) =
        origin-map (both.parts part reached) (λ due. product_both_hi inner inner' u v due) (part-hi a.cut)
        (part-hi b.cut)
    from_both u v (of_second reached) =
        origin-map (first.parts part reached) (λ due. product_hi_lo inner inner' u v due) (part-hi a.cut)
        (part-lo b.cut)

    from_all : Splits (suc low) f a.lo a.hi → Splits (suc low) g b.lo b.hi
        → Origin (IsDueToUnion some.union second.has.product part) some.union second.has.product part → Comes f g part
    from_all u v (is_due due) =
        is_due (product_three inner inner' u v both.has.is first.has.is some.is second.has.is due)
    from_all u v (of_first reached) =
        from_both u v (union-parts size both.has.spans first.has.spans some.is reached)
    from_all u v (of_second reached) =
        origin-map (second.parts part reached) (λ due. product_lo_hi inner inner' u v due) (part-lo a.cut)
        (part-hi b.cut)

    from_hi : CutKind (suc low) f a.lo a.hi → CutKind (suc low) g b.lo b.hi → IsReached all.union part → Comes f g part
    from_hi (whole e above none) (whole e' above' none') reached =
        reached-none (reached_same (all_second none ∙ no_product_right second.has.is none') reached)
    from_hi (whole e above none) (cut_off v) reached =
        origin-map (second.parts part (reached_same (all_second none) reached))
        (λ due. product_second_hi inner inner' v above (rw e due)) (part-lo a.cut) (part-hi b.cut)
    from_hi (cut_off u) (whole e above none) reached =
        origin-map (first.parts part (reached_same (all_first none) reached))
        (λ due. product_first_hi inner inner' u above (rw e due)) (part-hi a.cut) (part-lo b.cut)
    from_hi (cut_off u) (cut_off v) reached = from_all u v (union-parts size some.spans second.has.spans all.is reached)

    part_from : PartAt (branch (suc low) lo.has.product all.union) lo.has.product all.union part → Comes f g part
    part_from (itself same) = is_due (product_itself (rw same is_product))
    part_from (of_lo reached) =
        origin-map (lo.parts part reached) (due_lo inner inner' (cut_kind a.cut) (cut_kind b.cut)) (part-lo a.cut)
        (part-lo b.cut)
    part_from (of_hi reached) = from_hi (cut_kind a.cut) (cut_kind b.cut) reached

  made_from : IsInnerFamily f → IsInnerFamily g → Made low (suc size) f g
  made_from inner inner' =
      made_with s t is_product (λ part reached.
      part_from inner inner' (part_at all.union (spans-cut lo.has.spans all.spans) reached))

made : (size : ℕ) {low : ℕ} {f g : List (List ℕ)} → Spans low size f → Spans low size g → Made low size f g
made zero s t =
    made_by s t (ends s.is_family t.is_family kind_of_family kind_of_family) (λ inner inner'. no_inner s inner)
made (suc size) {low} {f} {g} s t =
    let a : Halves low size f = halves s in
    let b : Halves low size g = halves t in
    made_by s t (ends s.is_family t.is_family kind_of_family kind_of_family)
    (made_from s t a b (made size a.lo_spans b.lo_spans) (made size a.hi_spans b.hi_spans)
    (made size a.hi_spans b.lo_spans) (made size a.lo_spans b.hi_spans))

pub product-exists : (size : ℕ) {low : ℕ} {f g : List (List ℕ)} → Spans low size f → Spans low size g
    → HasProduct low size f g
product-exists size s t = (made size s t).has

pub product-parts : (size : ℕ) {low : ℕ} {f g h part : List (List ℕ)} → Spans low size f → Spans low size g
    → IsProduct f g h → IsReached h part → Origin (IsDueToProduct f g part) f g part
product-parts size {low} {f} {g} {h} {part} s t is reached =
    let m : Made low size f g = made size s t in
    m.parts part (reached_same (product-one f g h m.has.product is m.has.is) reached)
