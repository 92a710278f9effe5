-- A union by the halves of both references: two inner unions, and a node of both.
use Rattle.std.proofs.Common.{Result, MatchResult, ◌≡◌, ◌≢◌, ℕ, List, sym, subst}
use Rattle.zdd_families.specs.{Family.IsAbove, Map.Knows, Map.family, Union.IsUnion, Due.GoesOn, Due.union_itself}
use Rattle.zdd_families.proofs.UnionLemmas.{union-above, union-step}
use Rattle.zdd_shared_table.specs.Seats.{Seated, IsSoundSeat, map_of}
use Rattle.zdd_product.specs.{declared.halves.Halves.Halves, Due.IsMadeByUnion, Halves.AreHalves}
use Rattle.zdd_product.specs.Seats.{IsBranch, KnowsOne, WentOn, Gave, WasFull}
use Rattle.zdd_product.proofs.Halved.{Halved, halved_by, first_cut, second_cut, one_cut, at_his}
use Rattle.zdd_product.proofs.After.{WentOn-as, WasFull-as, WentOn-next, WasFull-next, known_stays, made_after}
use Rattle.zdd_product.proofs.UnionParts.{union_goes_on, union_makes_lo, union_makes_hi}

pub union_halved : {q s : Seated} {a b : ℕ} {halves : Halves} → q ≡ s → IsSoundSeat q → AreHalves (map_of s) a b halves
    → Knows (map_of s) a → Knows (map_of s) b → (a ≢ 0) × (b ≢ 0) × (a ≢ b) → Halved GoesOn q s a b halves
union_halved {s = s} {a = a} {b = b} same sound are knows_a knows_b go_on =
    halved_by same sound are (λ is. union_goes_on (map_of s) is.closed is.unique knows_a knows_b go_on.0 go_on.1
    go_on.2)

module _ {q s : Seated} {a b : ℕ} {halves : Halves} (cut : Halved GoesOn q s a b halves) where
  abbrev due : List (List ℕ) → Type 0
  due = IsMadeByUnion (family (map_of s) a) (family (map_of s) b)

  abbrev lo_union : Seated → List (List ℕ) → Type 0
  lo_union p = IsUnion (family (map_of p) halves.first.lo) (family (map_of p) halves.second.lo)

  abbrev lo_due : Seated → List (List ℕ) → Type 0
  lo_due p = IsMadeByUnion (family (map_of p) halves.first.lo) (family (map_of p) halves.second.lo)

  to_lo : (h : List (List ℕ)) → lo_due s h → due h
  to_lo = union_makes_lo halves.level _ _ cut.go_on (one_cut cut) cut.are.first.halved cut.are.second.halved

  pub union_lo_full : {s1 : Seated} → WasFull (lo_due q) q s1 → WasFull due s s1
  union_lo_full {s1 = s1} full =
      WasFull-as (lo_due s) due to_lo s s1 (subst (λ (p : Seated). WasFull (lo_due p) p s1) cut.same full)

  module _ {s1 : Seated} {lo : ℕ} (gave_lo : Gave (lo_union q) (lo_due q) q s1 lo) where
    gave : Gave (lo_union s) (lo_due s) s s1 lo
    gave = subst (λ (p : Seated). Gave (lo_union p) (lo_due p) p s1 lo) cut.same gave_lo

    pub union_lo_on : WentOn due s s1
    union_lo_on = WentOn-as (lo_due s) due to_lo s s1 gave.on

    abbrev hi_due : List (List ℕ) → Type 0
    hi_due = IsMadeByUnion (family (map_of s1) halves.first.hi) (family (map_of s1) halves.second.hi)

    to_hi : (h : List (List ℕ)) → hi_due h → due h
    to_hi h made =
        union_makes_hi halves.level _ _ cut.go_on (one_cut cut) cut.are.first.halved cut.are.second.halved
        (at_his cut union_lo_on (λ f g. IsMadeByUnion f g h) made)

    pub union_hi_full : {s2 : Seated} → WasFull hi_due s1 s2 → WasFull due s s2
    union_hi_full {s2 = s2} full = WasFull-next hi_due s2 union_lo_on to_hi full

    module _ {s2 : Seated} {hi : ℕ} (gave_hi : Gave
        (IsUnion (family (map_of s1) halves.first.hi) (family (map_of s1) halves.second.hi)) hi_due s1 s2 hi) where
      pub union_lo_known : KnowsOne (map_of s2) lo (lo_union s)
      union_lo_known = known_stays (lo_union s) lo gave.on.went.sound gave_hi.on gave.known

      hi_is : IsUnion (family (map_of s) halves.first.hi) (family (map_of s) halves.second.hi) (family (map_of s2) hi)
      hi_is = at_his cut union_lo_on (λ f g. IsUnion f g (family (map_of s2) hi)) gave_hi.known.1

      pub union_lo_above : IsAbove halves.level (family (map_of s2) lo)
      union_lo_above =
          union-above halves.level union_lo_known.1 (first_cut cut).lo_above (second_cut cut).lo_above

      pub union_hi_above : IsAbove halves.level (family (map_of s2) hi)
      union_hi_above =
          union-above halves.level hi_is (first_cut cut).hi_above (second_cut cut).hi_above

      abbrev made : List (List ℕ) → Type 0
      made = IsBranch halves.level (family (map_of s2) lo) (family (map_of s2) hi)

      to_is : (h : List (List ℕ)) → made h → IsUnion (family (map_of s) a) (family (map_of s) b) h
      to_is h is =
          subst (IsUnion (family (map_of s) a) (family (map_of s) b)) (sym is)
          (union-step halves.level _ _ _ _ _ _ _ _ (first_cut cut) (second_cut cut) union_lo_known.1 hi_is)

      pub union_made : {E : Type 0} (s3 : Seated) (result : Result ℕ E)
          → MatchResult result (Gave made made s2 s3) (λ _. WasFull made s2 s3)
          → MatchResult result (Gave (IsUnion (family (map_of s) a) (family (map_of s) b)) due s s3)
          (λ _. WasFull due s s3)
      union_made s3 result m =
          made_after made (IsUnion (family (map_of s) a) (family (map_of s) b)) to_is
          (λ h is. (cut.go_on, union_itself (to_is h is))) s3
          (WentOn-next hi_due s2 union_lo_on to_hi gave_hi.on) result m
