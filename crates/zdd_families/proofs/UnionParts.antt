-- Two families have a union, and each of its parts is due to the union or a part of one of them.
use Rattle.std.specs.Prelude.{ℕ, zero, suc, List}
use Rattle.std.proofs.Common.{sym, ◌∙◌, inl, inr}
use Rattle.zdd_families.specs.{Family.IsFamily, Family.branch, Cuts.Cuts, Nodes.IsReached, Union.IsUnion, Spans.Spans}
use Rattle.zdd_families.specs.Due.{IsDueToUnion, union_itself, union_both_lo, union_both_hi, union_first}
use Rattle.zdd_families.specs.Due.{union_second, GoesOn}
use Rattle.zdd_families.proofs.UnionLemmas.{union-one, union-none, union-with_none, union-itself, union-above}
use Rattle.zdd_families.proofs.UnionLemmas.{union-step}
use Rattle.zdd_families.proofs.Parts.{some_or_none, same_or_other, PartAt, itself, of_lo, of_hi, part_at, part-lo}
use Rattle.zdd_families.proofs.Parts.{part-hi, CutKind, whole, cut_off, cut_kind, Origin, is_due, of_first, of_second}
use Rattle.zdd_families.proofs.Parts.{origin-map, reached_same}
use Rattle.zdd_families.proofs.SpansLemmas.{no_span, Halves, halves, spans-cut}

pub Spans-union : {low size : ℕ} {f g h : List (List ℕ)} → Spans low size f → Spans low size g → IsUnion f g h
    → Spans low size h
Spans-union {low} s t is = record {
  is_family = is.is_family;
  above = union-above low is s.above t.above;
  below = λ set has. elim ((is.sets set).0 has) [
    | inl of_f ↦ s.below set of_f
    | inr of_g ↦ t.below set of_g
  ];
}

-- ---- there is a union

pub record HasUnion (low size : ℕ) (f g : List (List ℕ)) : Type 0 where
  pub union : List (List ℕ)
  pub is : IsUnion f g union
  pub spans : Spans low size union

-- and where its parts come from
record Made (low size : ℕ) (f g : List (List ℕ)) : Type 0 where
  has : HasUnion low size f g
  parts : (part : List (List ℕ)) → IsReached has.union part → Origin (IsDueToUnion f g part) f g part

-- the union is one of both families, or neither is an end
data End (f g : List (List ℕ)) : Type 0 where
  first : IsUnion f g f → End f g
  second : IsUnion f g g → End f g
  goes_on : GoesOn f g → End f g

ends : {f g : List (List ℕ)} → IsFamily f → IsFamily g → End f g
ends {f} {g} is is' =
    elim (some_or_none f) [
      | inl none ↦ second (rw none (union-none g is'))
      | inr some ↦ elim (some_or_none g) [
        | inl none ↦ first (rw none (union-with_none f is))
        | inr some' ↦ elim (same_or_other f g) [
          | inl same ↦ first (rw (← same) (union-itself f is))
          | inr differ ↦ goes_on (record { first_some = some; second_some = some'; differ = differ })
        ]
      ]
    ]

made_by : {low size : ℕ} {f g : List (List ℕ)} → Spans low size f → Spans low size g → End f g
    → (GoesOn f g → Made low size f g) → Made low size f g
made_by {f} s t (first is) on =
    record { has = record { union = f; is = is; spans = s }; parts = λ part reached. of_first reached }
made_by {g} s t (second is) on =
    record { has = record { union = g; is = is; spans = t }; parts = λ part reached. of_second reached }
made_by s t (goes_on h) on = on h

-- two families without units do not go on
no_more : {G : Type 0} {low : ℕ} {f g : List (List ℕ)} → Spans low zero f → Spans low zero g → GoesOn f g → G
no_more {f} {g} s t on =
    elim (no_span f s) [
      | inl none ↦ absurd (on.first_some none)
      | inr unit ↦ elim (no_span g t) [
        | inl none ↦ absurd (on.second_some none)
        | inr unit' ↦ absurd (on.differ (unit ∙ sym unit'))
      ]
    ]

module _ {x : ℕ} {f f0 f1 g g0 g1 part : List (List ℕ)} (cut : Cuts x f f0 f1) (cut' : Cuts x g g0 g1)
    (on : GoesOn f g) where
  due_lo : CutKind x f f0 f1 → CutKind x g g0 g1 → IsDueToUnion f0 g0 part → IsDueToUnion f g part
  due_lo (whole e above none) (whole e' above' none') due = rw (e, e') due
  due_lo (whole e above none) (cut_off s) due = union_second on s above (rw e due)
  due_lo (cut_off s) (whole e above none) due = union_first on s above (rw e due)
  due_lo (cut_off s) (cut_off s') due = union_both_lo on s s' due

  due_hi : CutKind x f f0 f1 → CutKind x g g0 g1 → IsFamily f1 → IsFamily g1 → {h1 : List (List ℕ)} → IsUnion f1 g1 h1
      → IsReached h1 part → Origin (IsDueToUnion f1 g1 part) f1 g1 part → Origin (IsDueToUnion f g part) f g part
  due_hi (whole e above none) kind is is' {h1} union reached origin =
      of_second (part-hi cut' (reached_same (union-one f1 g1 h1 g1 union (rw none (union-none g1 is'))) reached))
  due_hi (cut_off s) (whole e above none) is is' {h1} union reached origin =
      of_first (part-hi cut (reached_same (union-one f1 g1 h1 f1 union (rw none (union-with_none f1 is))) reached))
  due_hi (cut_off s) (cut_off s') is is' union reached origin =
      origin-map origin (λ due. union_both_hi on s s' due) (part-hi cut) (part-hi cut')

module _ {low size : ℕ} {f g : List (List ℕ)} (s : Spans low (suc size) f) (t : Spans low (suc size) g)
    (a : Halves low size f) (b : Halves low size g) (lo : Made (suc low) size a.lo b.lo)
    (hi : Made (suc low) size a.hi b.hi) (on : GoesOn f g) where
  is_union : IsUnion f g (branch (suc low) lo.has.union hi.has.union)
  is_union =
      union-step (suc low) f a.lo a.hi g b.lo b.hi lo.has.union hi.has.union a.cut b.cut lo.has.is hi.has.is

  part_from : {part : List (List ℕ)} → PartAt (branch (suc low) lo.has.union hi.has.union)
      lo.has.union hi.has.union part
      → Origin (IsDueToUnion f g part) f g part
  part_from (itself same) = is_due (union_itself (rw same is_union))
  part_from {part} (of_lo reached) =
      origin-map (lo.parts part reached) (due_lo a.cut b.cut on (cut_kind a.cut) (cut_kind b.cut)) (part-lo a.cut)
      (part-lo b.cut)
  part_from {part} (of_hi reached) =
      due_hi a.cut b.cut on (cut_kind a.cut) (cut_kind b.cut) a.hi_spans.is_family b.hi_spans.is_family hi.has.is
      reached
      (hi.parts part reached)

  made_from : Made low (suc size) f g
  made_from = record {
    has = record {
      union = branch (suc low) lo.has.union hi.has.union;
      is = is_union;
      spans = Spans-union s t is_union;
    };
    parts = λ part reached. part_from (part_at hi.has.union (spans-cut lo.has.spans hi.has.spans) reached);
  }

made : (size : ℕ) {low : ℕ} {f g : List (List ℕ)} → Spans low size f → Spans low size g → Made low size f g
made zero s t = made_by s t (ends s.is_family t.is_family) (λ on. no_more s t on)
made (suc size) {low} {f} {g} s t =
    let a : Halves low size f = halves s in
    let b : Halves low size g = halves t in
    made_by s t (ends s.is_family t.is_family)
    (made_from s t a b (made size a.lo_spans b.lo_spans) (made size a.hi_spans b.hi_spans))

pub union-exists : (size : ℕ) {low : ℕ} {f g : List (List ℕ)} → Spans low size f → Spans low size g
    → HasUnion low size f g
union-exists size s t = (made size s t).has

pub union-parts : (size : ℕ) {low : ℕ} {f g h part : List (List ℕ)} → Spans low size f → Spans low size g
    → IsUnion f g h → IsReached h part → Origin (IsDueToUnion f g part) f g part
union-parts size {low} {f} {g} {h} {part} s t is reached =
    let m : Made low size f g = made size s t in
    m.parts part (reached_same (union-one f g h m.has.union is m.has.is) reached)
