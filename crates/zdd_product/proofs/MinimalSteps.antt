-- The minimal sets of a node: those of its lo, and those of its hi without the sets that include one of lo.
use Rattle.std.proofs.Common.{Result, MatchResult, ◌≡◌, ◌≢◌, ℕ, zero, suc, ◌-◌, ◌<◌, ◌≤◌, List, [], ◌∷◌}
use Rattle.std.proofs.Common.{Contains, refl, sym, ◌∙◌, subst, inl, inr, arith}
use Rattle.std.proofs.lemmas.Bool.{cases_Bool}
use Rattle.unit_sets.specs.Unit.{IsUnit}
use Rattle.unit_sets.proofs.Sorted.{Contains-nil, Contains-cons_first, Contains-cons_cases}
use Rattle.zdd_families.specs.{Family.IsAbove, Family.branch, Inclusion.includes_one, Without.IsWithout}
use Rattle.zdd_families.specs.{Minimal.IsMinimal}
use Rattle.zdd_families.proofs.{FamilyLemmas.IsFamily-unit, FamilyLemmas.same_family, Canonical.IsFamily-family}
use Rattle.zdd_families.proofs.{Canonical.family-same, WithoutLemmas.without-above, References.IsInnerFamily-reference}
use Rattle.zdd_families.specs.Map.{Knows, KnowsAs, IsClosed, IsUnique, family, level_in}
use Rattle.zdd_families.proofs.MapLemmas.{family-empty, family-unit}
use Rattle.zdd_families.proofs.MapLemmas.{level_in-grown}
use Rattle.zdd_families.proofs.MinimalLemmas.{minimal-none, minimal-unit, minimal-above, minimal-step}
use Rattle.zdd_families.specs.Due.{IsInnerFamily, minimal_itself, minimal_lo, minimal_hi, minimal_rest}
use Rattle.zdd_shared_table.specs.Seats.{Seated, IsSoundSeat, map_of}
use Rattle.zdd_product.specs.{declared.halves.Half.Half, Due.IsMadeByMinimal, Due.IsMadeByWithout, Halves.IsHalf}
use Rattle.zdd_product.specs.{Halves.IsSplit}
use Rattle.zdd_product.specs.Seats.{IsBranch, KnowsOne, WentOn, Gave, WasFull}
use Rattle.zdd_product.proofs.After.{stays, known_stays, WentOn-as, WasFull-as, WentOn-next, WasFull-next, made_after}
use Rattle.zdd_product.proofs.WithoutParts.{has_empty, unit_stays}

-- ---- ends

pub minimal_ends : (known : ℕ → ℕ) (a : ℕ) → a < 2 → KnowsOne known a (IsMinimal (family known a))
minimal_ends known zero small = (inl small, subst (λ f. IsMinimal f f) (sym (family-empty known)) minimal-none)
minimal_ends known (suc zero) small = (inl small, subst (λ f. IsMinimal f f) (sym (family-unit known)) minimal-unit)
minimal_ends known (suc (suc a)) small = absurd (omega arith)

-- minimal sets with the empty set among them are the empty set alone
module _ {f least : List (List ℕ)} (is : IsMinimal f least) (empty : Contains least []) where
  to_empty : (set : List ℕ) → Contains least set → Contains ([] ∷ []) set
  to_empty set has =
      subst (Contains ([] ∷ [])) (((is.sets set).0 has).1 [] ((is.sets []).0 empty).0 refl) (Contains-cons_first [] [])

  from_empty : (set : List ℕ) → Contains ([] ∷ []) set → Contains least set
  from_empty set has = elim (Contains-cons_cases [] set [] has) [
    | inl same ↦ subst (Contains least) same empty
    | inr none ↦ Contains-nil set none
  ]

  least_empty : least ≡ [] ∷ []
  least_empty = same_family least ([] ∷ []) is.is_family IsFamily-unit (λ set. (to_empty set, from_empty set))

pub unit_of_least : (known : ℕ → ℕ) {high low : ℕ} {f : List (List ℕ)} → IsClosed known → IsUnique known
    → Knows known low → IsMinimal f (family known low) → high ≡ 1 → low ≢ 1
    → KnowsOne known high (IsWithout (family known high) (family known low))
unit_of_least known {low} closed unique knows is unit other =
    elim (cases_Bool (includes_one (family known low) [])) [
      | inl test ↦ absurd (other (family-same known low 1 closed unique knows (inl (omega arith))
          (least_empty is (has_empty (family known low) test) ∙ sym (family-unit known))))
      | inr test ↦ unit_stays known low unit unit test
    ]

-- ---- the levels above a reference

abbrev pub levels_above : (ℕ → ℕ) → ℕ → ℕ
levels_above known a = 4096 - level_in known a

pub fewer_alone : (known known' : ℕ → ℕ) {x : ℕ} (a r : ℕ) → x < 4096 → level_in known a ≡ x → x < level_in known' r
    → levels_above known' r < levels_above known a
fewer_alone known known' a r unit here above = omega arith

-- ---- the steps

-- The reference a, which is no end, was split at its least unit: the seat q afterwards is the seat s before.
pub record IsParted (q s : Seated) (a x : ℕ) (half : Half) : Type 0 where
  pub same : q ≡ s
  pub sound : IsSoundSeat s
  pub unit : IsUnit x
  pub is_half : IsHalf (map_of s) x a half
  pub split : IsSplit (map_of s) x a half
  pub inner : IsInnerFamily (family (map_of s) a)

pub parted : {q s : Seated} {a x : ℕ} {half : Half} → q ≡ s → IsSoundSeat q → IsUnit x → IsHalf (map_of s) x a half
    → IsSplit (map_of s) x a half → Knows (map_of s) a → 2 ≤ a → IsParted q s a x half
parted {s = s} {a = a} same sound unit is_half split knows inner =
    let sound' : IsSoundSeat s = subst IsSoundSeat same sound in
    record {
      same = same;
      sound = sound';
      unit = unit;
      is_half = is_half;
      split = split;
      inner = IsInnerFamily-reference (map_of s) a sound'.closed sound'.unique knows inner;
    }

module _ {q s : Seated} {a x : ℕ} {half : Half} (cut : IsParted q s a x half) where
  abbrev all : List (List ℕ) → Type 0
  all = IsMadeByMinimal (family (map_of s) a)

  abbrev lo_due : Seated → List (List ℕ) → Type 0
  lo_due p = IsMadeByMinimal (family (map_of p) half.lo)

  abbrev lo_least : Seated → List (List ℕ) → Type 0
  lo_least p = IsMinimal (family (map_of p) half.lo)

  to_lo : (h : List (List ℕ)) → lo_due s h → all h
  to_lo h made = (cut.inner, minimal_lo cut.split.splits made.1)

  fewer : (p : Seated) (r : ℕ) → x < level_in (map_of p) r → levels_above (map_of p) r < levels_above (map_of s) a
  fewer p r above = fewer_alone (map_of s) (map_of p) a r (let u = cut.unit.1 in omega arith) cut.split.level above

  pub minimal_lo_next : (levels_above (map_of q) half.lo < levels_above (map_of s) a) × Knows (map_of q) half.lo
  minimal_lo_next =
      subst (λ (p : Seated). (levels_above (map_of p) half.lo < levels_above (map_of s) a) × Knows (map_of p) half.lo)
      (sym cut.same) (fewer s half.lo cut.is_half.lo_above, cut.is_half.knows_lo)

  pub minimal_lo_full : {s1 : Seated} → WasFull (lo_due q) q s1 → WasFull all s s1
  minimal_lo_full {s1 = s1} full =
      WasFull-as (lo_due s) all to_lo s s1 (subst (λ (p : Seated). WasFull (lo_due p) p s1) cut.same full)

  module _ {s1 : Seated} {lo : ℕ} (gave_lo : Gave (lo_least q) (lo_due q) q s1 lo) where
    gave : Gave (lo_least s) (lo_due s) s s1 lo
    gave = subst (λ (p : Seated). Gave (lo_least p) (lo_due p) p s1 lo) cut.same gave_lo

    on1 : WentOn all s s1
    on1 = WentOn-as (lo_due s) all to_lo s s1 gave.on

    hi_at1 : KnowsAs (map_of s1) half.hi (family (map_of s) half.hi)
    hi_at1 = stays s s1 half.hi cut.sound on1.went.sound on1.went.keeps cut.is_half.knows_hi

    pub minimal_hi_next : (levels_above (map_of s1) half.hi < levels_above (map_of s) a) × Knows (map_of s1) half.hi
    minimal_hi_next =
        let later = level_in-grown (map_of s) (map_of s1) half.hi on1.went.keeps cut.is_half.knows_hi in
        (fewer s1 half.hi (subst (λ n. x < n) (sym later) cut.is_half.hi_above), hi_at1.0)

    abbrev hi_due : List (List ℕ) → Type 0
    hi_due = IsMadeByMinimal (family (map_of s1) half.hi)

    to_hi : (h : List (List ℕ)) → hi_due h → all h
    to_hi h made =
        let at : IsMadeByMinimal (family (map_of s) half.hi) h = subst (λ f. IsMadeByMinimal f h) hi_at1.1 made in
        (cut.inner, minimal_hi cut.split.splits at.1)

    pub minimal_hi_full : {s2 : Seated} → WasFull hi_due s1 s2 → WasFull all s s2
    minimal_hi_full {s2 = s2} full = WasFull-next hi_due s2 on1 to_hi full

    module _ {s2 : Seated} {high : ℕ} (gave2 : Gave (IsMinimal (family (map_of s1) half.hi)) hi_due s1 s2 high) where
      on2 : WentOn all s s2
      on2 = WentOn-next hi_due s2 on1 to_hi gave2.on

      lo_known : KnowsOne (map_of s2) lo (lo_least s)
      lo_known = known_stays (lo_least s) lo gave.on.went.sound gave2.on gave.known

      pub minimal_lo_known : Knows (map_of s2) lo × ((f : List (List ℕ)) × IsMinimal f (family (map_of s2) lo))
      minimal_lo_known = (lo_known.0, (family (map_of s) half.lo, lo_known.1))

      high_is : IsMinimal (family (map_of s) half.hi) (family (map_of s2) high)
      high_is = subst (λ f. IsMinimal f (family (map_of s2) high)) hi_at1.1 gave2.known.1

      abbrev rest_due : List (List ℕ) → Type 0
      rest_due = IsMadeByWithout (family (map_of s2) high) (family (map_of s2) lo)

      to_rest : (h : List (List ℕ)) → rest_due h → all h
      to_rest h made = (cut.inner, minimal_rest cut.split.splits lo_known.1 high_is made.2)

      pub minimal_rest_full : {s3 : Seated} → WasFull rest_due s2 s3 → WasFull all s s3
      minimal_rest_full {s3 = s3} full = WasFull-next rest_due s3 on2 to_rest full

      module _ {s3 : Seated} {hi : ℕ} (gave3 : Gave (IsWithout (family (map_of s2) high) (family (map_of s2) lo))
          rest_due s2 s3 hi) where
        lo_at3 : KnowsAs (map_of s3) lo (family (map_of s2) lo)
        lo_at3 = stays s2 s3 lo gave2.on.went.sound gave3.on.went.sound gave3.on.went.keeps lo_known.0

        pub minimal_lo_knows : Knows (map_of s3) lo
        minimal_lo_knows = lo_at3.0

        pub minimal_lo_above : IsAbove x (family (map_of s3) lo)
        minimal_lo_above =
            subst (IsAbove x) (sym lo_at3.1) (minimal-above x lo_known.1 cut.split.splits.cut.lo_above)

        pub minimal_hi_above : IsAbove x (family (map_of s3) hi)
        minimal_hi_above =
            without-above x gave3.known.1 (minimal-above x high_is cut.split.splits.cut.hi_above)

        abbrev made : List (List ℕ) → Type 0
        made = IsBranch x (family (map_of s3) lo) (family (map_of s3) hi)

        to_is : (h : List (List ℕ)) → made h → IsMinimal (family (map_of s) a) h
        to_is h is =
            subst (IsMinimal (family (map_of s) a)) (sym is)
            (subst (λ l. IsMinimal (family (map_of s) a) (branch x l (family (map_of s3) hi))) (sym lo_at3.1)
            (minimal-step x (family (map_of s) a) (family (map_of s) half.lo) (family (map_of s) half.hi)
            (family (map_of s2) lo) (family (map_of s2) high) (family (map_of s3) hi) cut.split.splits.cut
            (IsFamily-family (map_of s) half.lo cut.sound.closed cut.is_half.knows_lo) lo_known.1 high_is
            gave3.known.1))

        pub minimal_made : {E : Type 0} (s4 : Seated) (result : Result ℕ E)
            → MatchResult result (Gave made made s3 s4) (λ _. WasFull made s3 s4)
            → MatchResult result (Gave (IsMinimal (family (map_of s) a)) all s s4) (λ _. WasFull all s s4)
        minimal_made s4 result m =
            made_after made (IsMinimal (family (map_of s) a)) to_is
            (λ h is. (cut.inner, minimal_itself (to_is h is))) s4
            (WentOn-next rest_due s3 on2 to_rest gave3.on) result m
