-- What is left of a family without the sets that include a set of another: there is such a family, and
-- each of its parts is due to the operation or a part of the first family.
use Rattle.std.specs.Prelude.{◌≡◌, ◌⊎◌, ℕ, zero, suc, true, List, [], ◌∷◌, Contains}
use Rattle.std.proofs.Common.{sym, subst, inl, inr}
use Rattle.std.proofs.lemmas.Bool.{cases_Bool}
use Rattle.unit_sets.specs.UnitList.{is_within}
use Rattle.zdd_families.specs.{Family.IsFamily, Family.branch, Inclusion.includes_one, Inclusion.Includes}
use Rattle.zdd_families.specs.{Nodes.IsReached, Without.IsWithout, Spans.Spans}
use Rattle.zdd_families.specs.Due.{IsInnerFamily, IsDueToWithout, without_itself, without_both_lo, without_both_hi}
use Rattle.zdd_families.specs.Due.{without_both_rest, without_first_lo, without_first_hi, without_second}
use Rattle.zdd_families.proofs.{InclusionLemmas.Includes-from_test, ProductParts.no_inner}
use Rattle.zdd_families.proofs.WithoutLemmas.{without-one, without-none, without-nothing, without-unit}
use Rattle.zdd_families.proofs.WithoutLemmas.{unit-without, unit-without_other, without-step}
use Rattle.zdd_families.proofs.Parts.{Kind, is_none, is_unit, is_inner, kind_of_family, reached_same, reached-none}
use Rattle.zdd_families.proofs.Parts.{PartAt, itself, of_lo, of_hi, part_at, part-lo, part-hi, CutKind, whole}
use Rattle.zdd_families.proofs.Parts.{cut_off, cut_kind}
use Rattle.zdd_families.proofs.SpansLemmas.{Halves, halves, spans-cut, Spans-some}

pub Spans-without : {low size : ℕ} {f g h : List (List ℕ)} → Spans low size f → IsWithout f g h → Spans low size h
Spans-without s is = Spans-some s is.is_family (λ set has. ((is.sets set).0 has).0)

-- ---- there is such a family

abbrev Comes : List (List ℕ) → List (List ℕ) → List (List ℕ) → Type 0
Comes f g part = IsDueToWithout f g part ⊎ IsReached f part

-- with where its parts come from
pub record HasWithout (low size : ℕ) (f g : List (List ℕ)) : Type 0 where
  pub rest : List (List ℕ)
  pub is : IsWithout f g rest
  pub spans : Spans low size rest
  pub parts : (part : List (List ℕ)) → IsReached rest part → Comes f g part

-- nothing is left or all, or neither is an end
data End (f g : List (List ℕ)) : Type 0 where
  nothing : IsWithout f g [] → End f g
  all : IsWithout f g f → End f g
  goes_on : IsInnerFamily f → IsInnerFamily g → End f g

-- the empty set includes the empty set alone
empty_part : (g : List (List ℕ)) (part : List ℕ) → Contains g part → is_within [] part ≡ true → Contains g []
empty_part g [] has within = has
empty_part g (unit ∷ part) has within = absurd cc

of_empty_set : (g : List (List ℕ)) → End ([] ∷ []) g
of_empty_set g =
    elim (cases_Bool (includes_one g [])) [
      | inl some ↦
          let found : Includes g [] = Includes-from_test g [] some in
          nothing (unit-without g (empty_part g found.part found.has found.within))
      | inr none ↦ all (unit-without_other g none)
    ]

ends : {f g : List (List ℕ)} → IsFamily f → Kind f → Kind g → End f g
ends {g} is (is_none none) kind = nothing (rw none (without-none g))
ends {g} is (is_unit unit) kind = subst (λ q. End q g) (sym unit) (of_empty_set g)
ends {f} is (is_inner inner) (is_none none) = all (rw none (without-nothing f is))
ends {f} is (is_inner inner) (is_unit unit) = nothing (rw unit (without-unit f))
ends is (is_inner inner) (is_inner inner') = goes_on inner inner'

made_with : {low size : ℕ} {f g h : List (List ℕ)} → Spans low size f → IsWithout f g h
    → ((part : List (List ℕ)) → IsReached h part → Comes f g part) → HasWithout low size f g
made_with {h} s is parts = record { rest = h; is = is; spans = Spans-without s is; parts = parts }

made_by : {low size : ℕ} {f g : List (List ℕ)} → Spans low size f → End f g
    → (IsInnerFamily f → IsInnerFamily g → HasWithout low size f g) → HasWithout low size f g
made_by s (nothing is) on = made_with s is (λ part reached. reached-none reached)
made_by s (all is) on = made_with s is (λ part reached. inr reached)
made_by s (goes_on inner inner') on = on inner inner'

comes-map : {f g f' g' part : List (List ℕ)} → Comes f g part → (IsDueToWithout f g part → IsDueToWithout f' g' part)
    → (IsReached f part → IsReached f' part) → Comes f' g' part
comes-map (inl due) to first = inl (to due)
comes-map (inr reached) to first = inr (first reached)

nothing_left : {f g h : List (List ℕ)} → IsWithout f g h → f ≡ [] → h ≡ []
nothing_left {f} {g} {h} is none = without-one f g h [] is (rw none (without-none g))

module _ {low size : ℕ} {f g : List (List ℕ)} (s : Spans low (suc size) f) (a : Halves low size f)
    (b : Halves low size g) (lo : HasWithout (suc low) size a.lo b.lo) (some : HasWithout (suc low) size a.hi b.hi)
    (hi : HasWithout (suc low) size some.rest b.lo) where
  is_without : IsWithout f g (branch (suc low) lo.rest hi.rest)
  is_without =
      without-step (suc low) f a.lo a.hi g b.lo b.hi lo.rest some.rest hi.rest a.cut b.cut lo.is some.is hi.is

  module _ (inner : IsInnerFamily f) (inner' : IsInnerFamily g) {part : List (List ℕ)} where
    due_lo : CutKind (suc low) f a.lo a.hi → CutKind (suc low) g b.lo b.hi → IsDueToWithout a.lo b.lo part
        → IsDueToWithout f g part
    due_lo (whole e above none) (whole e' above' none') due = rw (e, e') due
    due_lo (whole e above none) (cut_off v) due = without_second inner inner' v above (rw e due)
    due_lo (cut_off u) (whole e above none) due = without_first_lo inner inner' u above (rw e due)
    due_lo (cut_off u) (cut_off v) due = without_both_lo inner inner' u v due

    from_hi : CutKind (suc low) f a.lo a.hi → CutKind (suc low) g b.lo b.hi → IsReached hi.rest part
        → Comes some.rest b.lo part → Comes f g part
    from_hi (whole e above none) kind reached rest =
        reached-none (reached_same (nothing_left hi.is (nothing_left some.is none)) reached)
    from_hi (cut_off u) (whole e above none) reached rest =
        comes-map (subst (λ q. Comes q b.lo part) (without-one a.hi b.hi some.rest a.hi some.is
        (rw none (without-nothing a.hi a.hi_spans.is_family))) rest)
        (λ due. without_first_hi inner inner' u above (rw e due)) (part-hi a.cut)
    from_hi (cut_off u) (cut_off v) reached (inl due) = inl (without_both_rest inner inner' u v some.is due)
    from_hi (cut_off u) (cut_off v) reached (inr of_some) =
        comes-map (some.parts part of_some) (λ due. without_both_hi inner inner' u v due) (part-hi a.cut)

    part_from : PartAt (branch (suc low) lo.rest hi.rest) lo.rest hi.rest part → Comes f g part
    part_from (itself same) = inl (without_itself (rw same is_without))
    part_from (of_lo reached) =
        comes-map (lo.parts part reached) (due_lo (cut_kind a.cut) (cut_kind b.cut)) (part-lo a.cut)
    part_from (of_hi reached) = from_hi (cut_kind a.cut) (cut_kind b.cut) reached (hi.parts part reached)

  made_from : IsInnerFamily f → IsInnerFamily g → HasWithout low (suc size) f g
  made_from inner inner' =
      made_with s is_without (λ part reached.
      part_from inner inner' (part_at hi.rest (spans-cut lo.spans hi.spans) reached))

pub without-exists : (size : ℕ) {low : ℕ} {f g : List (List ℕ)} → Spans low size f → Spans low size g
    → HasWithout low size f g
without-exists zero s t =
    made_by s (ends s.is_family kind_of_family kind_of_family) (λ inner inner'. no_inner s inner)
without-exists (suc size) {low} {f} {g} s t =
    let a : Halves low size f = halves s in
    let b : Halves low size g = halves t in
    let some : HasWithout (suc low) size a.hi b.hi = without-exists size a.hi_spans b.hi_spans in
    made_by s (ends s.is_family kind_of_family kind_of_family)
    (made_from s a b (without-exists size a.lo_spans b.lo_spans) some (without-exists size some.spans b.lo_spans))

pub without-parts : (size : ℕ) {low : ℕ} {f g h part : List (List ℕ)} → Spans low size f → Spans low size g
    → IsWithout f g h → IsReached h part → IsDueToWithout f g part ⊎ IsReached f part
without-parts size {low} {f} {g} {h} {part} s t is reached =
    let m : HasWithout low size f g = without-exists size s t in
    m.parts part (reached_same (without-one f g h m.rest is m.is) reached)
