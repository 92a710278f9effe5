-- The parts of a family: those with units that are got from it by splitting at least units. Here by
-- cuts, whether or not there are sets with the unit.
use Rattle.std.specs.Prelude.{◌≡◌, ◌≢◌, ◌⊎◌, ℕ, true, List, [], ◌∷◌, Contains}
use Rattle.std.specs.{declared.cmp.Ordering.Ordering, Cmp.Lexicographic.slice_cmp, FinMap.slice_cmp-IsAntisymmetric}
use Rattle.std.specs.{FinMap.nat_cmp-IsAntisymmetric}
use Rattle.std.specs.declared.cmp.Ordering.TheVariants.{Less, Equal, Greater}
use Rattle.std.proofs.Common.{refl, sym, ◌∙◌, subst, inl, inr}
use Rattle.std.proofs.lemmas.Cmp.{lists_total, nat_list_cmp_total, tied_itself}
use Rattle.unit_sets.proofs.Sorted.{Contains-nil, Contains-cons_first}
use Rattle.unit_sets.specs.UnitList.{among}
use Rattle.zdd_families.specs.Family.{set_cmp, IsAbove}
use Rattle.zdd_families.specs.{Cuts.Cuts, Due.Splits, Due.IsInnerFamily}
use Rattle.zdd_families.proofs.CutsLemmas.{branch-none, cut_has_hi, only_empty, split-lo, split-hi}
use Rattle.zdd_families.specs.Nodes.{IsReached, reached_itself, reached_lo, reached_hi}

-- ---- a family has sets or none, and two are equal or not

pub some_or_none : (f : List (List ℕ)) → (f ≡ []) ⊎ (f ≢ [])
some_or_none [] = inl refl
some_or_none (set ∷ sets) = inr (λ e. cc)

unit_or_other : (f : List (List ℕ)) → (f ≡ [] ∷ []) ⊎ (f ≢ [] ∷ [])
unit_or_other [] = inr (λ e. cc)
unit_or_other ([] ∷ []) = inl refl
unit_or_other ([] ∷ set ∷ sets) = inr (λ e. cc)
unit_or_other ((unit ∷ set) ∷ sets) = inr (λ e. cc)

-- an end, or an inner family
pub data Kind (f : List (List ℕ)) : Type 0 where
  is_none : f ≡ [] → Kind f
  is_unit : f ≡ [] ∷ [] → Kind f
  is_inner : IsInnerFamily f → Kind f

pub kind_of_family : {f : List (List ℕ)} → Kind f
kind_of_family {f} =
    elim (some_or_none f) [
      | inl e ↦ is_none e
      | inr some ↦ elim (unit_or_other f) [
        | inl e ↦ is_unit e
        | inr other ↦ is_inner (record { not_none = some; not_unit = other })
      ]
    ]

tied : (f : List (List ℕ)) → slice_cmp set_cmp f f ≡ Equal
tied f = tied_itself (lists_total nat_list_cmp_total) f

same_by : {f g : List (List ℕ)} (o : Ordering) → slice_cmp set_cmp f g ≡ o → (f ≡ g) ⊎ (f ≢ g)
same_by {f} {g} Less h =
    inr (λ same. let e : slice_cmp set_cmp f g ≡ Equal =
    subst (λ q. slice_cmp set_cmp f q ≡ Equal) same (tied f) in absurd cc)
same_by {f} {g} Equal h = inl (slice_cmp-IsAntisymmetric (slice_cmp-IsAntisymmetric nat_cmp-IsAntisymmetric) f g h)
same_by {f} {g} Greater h =
    inr (λ same. let e : slice_cmp set_cmp f g ≡ Equal =
    subst (λ q. slice_cmp set_cmp f q ≡ Equal) same (tied f) in absurd cc)

pub same_or_other : (f g : List (List ℕ)) → (f ≡ g) ⊎ (f ≢ g)
same_or_other f g = same_by (slice_cmp set_cmp f g) refl

-- ---- parts

-- a family without units has no parts
split_set : (x : ℕ) (f lo hi : List (List ℕ)) → Splits x f lo hi → (unit : ℕ) × (set : List ℕ) × Contains f (unit ∷ set)
split_set x f lo [] split = absurd (split.some_with refl)
split_set x f lo (set ∷ hi) split = (x, set, cut_has_hi set split.cut (Contains-cons_first set hi))

pub reached-set : {f part : List (List ℕ)} → IsReached f part → (unit : ℕ) × (set : List ℕ) × Contains f (unit ∷ set)
reached-set {f} (reached_itself {x = x} {lo = lo} {hi = hi} split) = split_set x f lo hi split
reached-set {f} (reached_lo {x = x} {lo = lo} {hi = hi} split deeper) = split_set x f lo hi split
reached-set {f} (reached_hi {x = x} {lo = lo} {hi = hi} split deeper) = split_set x f lo hi split

pub reached_same : {f g part : List (List ℕ)} → f ≡ g → IsReached f part → IsReached g part
reached_same {part} same reached = subst (λ q. IsReached q part) same reached

pub reached-none : {G : Type 0} {part : List (List ℕ)} → IsReached [] part → G
reached-none reached = let found = reached-set reached in Contains-nil (found.0 ∷ found.1) found.2

none_in_unit : {G : Type 0} (unit : ℕ) (set : List ℕ) → Contains ([] ∷ []) (unit ∷ set) → G
none_in_unit unit set has = absurd (let e = only_empty (unit ∷ set) has in cc)

-- the empty set has no unit
pub empty_unit : {G : Type 0} (set : List ℕ) (unit : ℕ) → Contains ([] ∷ []) set → among set unit ≡ true → G
empty_unit set unit has member = absurd (let e = only_empty set has in let h = rw (← e) at member in cc)

-- a family that splits is no end of an operation
pub inner-from_split : (x : ℕ) (f lo hi : List (List ℕ)) → Splits x f lo hi → IsInnerFamily f
inner-from_split x f lo hi split =
    let found = split_set x f lo hi split in
    record {
      not_none =
          λ none. Contains-nil (found.0 ∷ found.1) (subst (λ q. Contains q (found.0 ∷ found.1)) none
          found.2);
      not_unit =
          λ unit. none_in_unit found.0 found.1 (subst (λ q. Contains q (found.0 ∷ found.1)) unit
          found.2);
    }

-- so a family within the empty set alone has no parts
pub reached-unit : {G : Type 0} {f part : List (List ℕ)} → ((set : List ℕ) → Contains f set → Contains ([] ∷ []) set)
    → IsReached f part → G
reached-unit within reached =
    let found = reached-set reached in none_in_unit found.0 found.1 (within (found.0 ∷ found.1) found.2)

-- ---- parts by cuts

-- without sets with the unit a family is its own lo
cut-none : {x : ℕ} {f lo : List (List ℕ)} → Cuts x f lo [] → f ≡ lo
cut-none {x} {lo} cut = cut.is ∙ branch-none x lo

-- a family that is cut is its own lo, above the unit, or has sets with the unit
pub data CutKind (x : ℕ) (f lo hi : List (List ℕ)) : Type 0 where
  whole : f ≡ lo → IsAbove x f → hi ≡ [] → CutKind x f lo hi
  cut_off : Splits x f lo hi → CutKind x f lo hi

pub cut_kind : {x : ℕ} {f lo hi : List (List ℕ)} → Cuts x f lo hi → CutKind x f lo hi
cut_kind {x} {hi = []} cut = let e = cut-none cut in whole e (subst (IsAbove x) (sym e) cut.lo_above) refl
cut_kind {hi = set ∷ hi} cut = cut_off (record { cut = cut; some_with = λ e. cc })

pub part-lo : {x : ℕ} {f lo hi part : List (List ℕ)} → Cuts x f lo hi → IsReached lo part → IsReached f part
part-lo cut reached =
    elim (cut_kind cut) [ whole same above none ↦ reached_same (sym same) reached | cut_off s ↦ reached_lo s reached ]

pub part-hi : {x : ℕ} {f lo hi part : List (List ℕ)} → Cuts x f lo hi → IsReached hi part → IsReached f part
part-hi cut reached =
    elim (cut_kind cut) [
      | whole same above none ↦ reached-none (reached_same none reached)
      | cut_off s ↦ reached_hi s reached
    ]

-- a part is the family itself, or a part of lo or hi
pub data PartAt (f lo hi part : List (List ℕ)) : Type 0 where
  itself : part ≡ f → PartAt f lo hi part
  of_lo : IsReached lo part → PartAt f lo hi part
  of_hi : IsReached hi part → PartAt f lo hi part

at_split : {x : ℕ} {f lo hi part : List (List ℕ)} → Splits x f lo hi → IsReached f part → PartAt f lo hi part
at_split s (reached_itself s') = itself refl
at_split s (reached_lo s' deeper) = of_lo (reached_same (split-lo s' s) deeper)
at_split s (reached_hi s' deeper) = of_hi (reached_same (split-hi s' s) deeper)

pub part_at : {x : ℕ} {f lo : List (List ℕ)} (hi : List (List ℕ)) {part : List (List ℕ)} → Cuts x f lo hi
    → IsReached f part → PartAt f lo hi part
part_at hi cut reached =
    elim (cut_kind cut) [
      | whole same above none ↦ of_lo (reached_same same reached)
      | cut_off s ↦ at_split s reached
    ]

-- ---- where a part of a result comes from

-- it is due to the operation, or a part of an operand
pub data Origin (Due : Type 0) (f g part : List (List ℕ)) : Type 0 where
  is_due : Due → Origin Due f g part
  of_first : IsReached f part → Origin Due f g part
  of_second : IsReached g part → Origin Due f g part

pub origin-map : {Due Due' : Type 0} {f g f' g' part : List (List ℕ)} → Origin Due f g part → (Due → Due')
    → (IsReached f part → IsReached f' part) → (IsReached g part → IsReached g' part) → Origin Due' f' g' part
origin-map (is_due h) to first second = is_due (to h)
origin-map (of_first h) to first second = of_first (first h)
origin-map (of_second h) to first second = of_second (second h)

pub origin-cases : {Due : Type 0} {f g part : List (List ℕ)} → Origin Due f g part
    → Due ⊎ (IsReached f part ⊎ IsReached g part)
origin-cases (is_due h) = inl h
origin-cases (of_first h) = inr (inl h)
origin-cases (of_second h) = inr (inr h)
