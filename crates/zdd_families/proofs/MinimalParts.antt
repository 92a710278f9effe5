-- A family has minimal sets, and each part of the family of them is due to the operation or a part of
-- the family.
use Rattle.std.specs.Prelude.{◌⊎◌, ℕ, zero, suc, List, [], ◌∷◌}
use Rattle.std.proofs.Common.{inl, inr}
use Rattle.zdd_families.specs.{Family.branch, Minimal.IsMinimal, Nodes.IsReached, Spans.Spans}
use Rattle.zdd_families.specs.Due.{Splits, IsDueToMinimal, minimal_itself, minimal_lo, minimal_hi}
use Rattle.zdd_families.specs.Due.{minimal_rest}
use Rattle.zdd_families.proofs.MinimalLemmas.{minimal-one, minimal-none, minimal-unit}
use Rattle.zdd_families.proofs.MinimalLemmas.{minimal-step}
use Rattle.zdd_families.proofs.Parts.{reached_same, reached-none, reached-unit, PartAt, itself, of_lo, of_hi}
use Rattle.zdd_families.proofs.Parts.{part_at, part-lo, part-hi, CutKind, whole, cut_off, cut_kind}
use Rattle.zdd_families.proofs.SpansLemmas.{no_span, Halves, halves, spans-cut, Spans-some}
use Rattle.zdd_families.proofs.WithoutParts.{HasWithout, without-exists}

pub Spans-minimal : {low size : ℕ} {f h : List (List ℕ)} → Spans low size f → IsMinimal f h → Spans low size h
Spans-minimal s is = Spans-some s is.is_family (λ set has. ((is.sets set).0 has).0)

-- ---- there are minimal sets

pub record HasLeast (low size : ℕ) (f : List (List ℕ)) : Type 0 where
  pub least : List (List ℕ)
  pub is : IsMinimal f least
  pub spans : Spans low size least

abbrev Comes : List (List ℕ) → List (List ℕ) → Type 0
Comes f part = IsDueToMinimal f part ⊎ IsReached f part

-- and where their parts come from
record Made (low size : ℕ) (f : List (List ℕ)) : Type 0 where
  has : HasLeast low size f
  parts : (part : List (List ℕ)) → IsReached has.least part → Comes f part

made_with : {low size : ℕ} {f h : List (List ℕ)} → Spans low size f → IsMinimal f h
    → ((part : List (List ℕ)) → IsReached h part → Comes f part) → Made low size f
made_with {h} s is parts =
    record { has = record { least = h; is = is; spans = Spans-minimal s is }; parts = parts }

comes-map : {f f' part : List (List ℕ)} → Comes f part → (IsDueToMinimal f part → IsDueToMinimal f' part)
    → (IsReached f part → IsReached f' part) → Comes f' part
comes-map (inl due) to first = inl (to due)
comes-map (inr reached) to first = inr (first reached)

-- from those of the parts, of which those of hi lose the ones that include one of lo
module _ {low size : ℕ} {f : List (List ℕ)} (s : Spans low (suc size) f) (a : Halves low size f)
    (lo : Made (suc low) size a.lo) (some : Made (suc low) size a.hi)
    (hi : HasWithout (suc low) size some.has.least lo.has.least) where
  is_minimal : IsMinimal f (branch (suc low) lo.has.least hi.rest)
  is_minimal =
      minimal-step (suc low) f a.lo a.hi lo.has.least some.has.least hi.rest a.cut a.lo_spans.is_family lo.has.is
      some.has.is hi.is

  part_from : {part : List (List ℕ)} → Splits (suc low) f a.lo a.hi
      → PartAt (branch (suc low) lo.has.least hi.rest) lo.has.least hi.rest part → Comes f part
  part_from u (itself same) = inl (minimal_itself (rw same is_minimal))
  part_from {part} u (of_lo reached) =
      comes-map (lo.parts part reached) (λ due. minimal_lo u due) (part-lo a.cut)
  part_from {part} u (of_hi reached) =
      elim (hi.parts part reached) [
        | inl due ↦ inl (minimal_rest u lo.has.is some.has.is due)
        | inr of_some ↦ comes-map (some.parts part of_some) (λ due. minimal_hi u due) (part-hi a.cut)
      ]

  made_from : CutKind (suc low) f a.lo a.hi → Made low (suc size) f
  made_from (whole e above none) = made_with s (rw e lo.has.is) (λ part reached. rw e (lo.parts part reached))
  made_from (cut_off u) =
      made_with s is_minimal (λ part reached.
      part_from u (part_at hi.rest (spans-cut lo.has.spans hi.spans) reached))

made : (size : ℕ) {low : ℕ} {f : List (List ℕ)} → Spans low size f → Made low size f
made zero {f} s =
    elim (no_span f s) [
      | inl none ↦ made_with {h = []} s (rw none minimal-none) (λ part reached. reached-none reached)
      | inr unit ↦ made_with {h = [] ∷ []} s (rw unit minimal-unit) (λ part reached. reached-unit (λ set has. has)
          reached)
    ]
made (suc size) {low} {f} s =
    let a : Halves low size f = halves s in
    let lo : Made (suc low) size a.lo = made size a.lo_spans in
    let some : Made (suc low) size a.hi = made size a.hi_spans in
    made_from s a lo some (without-exists size some.has.spans lo.has.spans) (cut_kind a.cut)

pub minimal-exists : (size : ℕ) {low : ℕ} {f : List (List ℕ)} → Spans low size f → HasLeast low size f
minimal-exists size s = (made size s).has

pub minimal-parts : (size : ℕ) {low : ℕ} {f h part : List (List ℕ)} → Spans low size f → IsMinimal f h
    → IsReached h part → IsDueToMinimal f part ⊎ IsReached f part
minimal-parts size {low} {f} {h} {part} s is reached =
    let m : Made low size f = made size s in
    m.parts part (reached_same (minimal-one f h m.has.least is m.has.is) reached)
