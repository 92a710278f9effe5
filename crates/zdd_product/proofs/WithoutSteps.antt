-- What is left by the halves of both references: of both lo, and of both hi without the sets that include one of the
-- other lo.
use Rattle.std.proofs.Common.{Result, MatchResult, ℕ, ◌<◌, List, sym, subst, arith}
use Rattle.zdd_families.specs.{Family.IsAbove, Map.Knows, Map.family, Without.IsWithout, Due.without_itself}
use Rattle.zdd_families.proofs.Canonical.{IsFamily-family, level-above}
use Rattle.zdd_families.proofs.WithoutLemmas.{without-above, without-step}
use Rattle.zdd_shared_table.specs.Seats.{Seated, map_of}
use Rattle.zdd_product.specs.{declared.halves.Halves.Halves, Due.IsMadeByWithout}
use Rattle.zdd_product.specs.Seats.{IsBranch, KnowsBoth, KnowsOne, WentOn, Gave, WasFull}
use Rattle.zdd_product.proofs.Halving.{levels_left, fewer_left}
use Rattle.zdd_product.proofs.Halved.{Halved, AreInner, first_cut, second_cut, one_cut, still, still_above, at_his}
use Rattle.zdd_product.proofs.After.{WentOn-as, WasFull-as, WentOn-next, WasFull-next, known_stays, made_after}
use Rattle.zdd_product.proofs.WithoutParts.{without_makes_lo, without_makes_hi, without_makes_rest}

module _ {q s : Seated} {a b : ℕ} {halves : Halves} (cut : Halved AreInner q s a b halves) where
  abbrev all : List (List ℕ) → Type 0
  all = IsMadeByWithout (family (map_of s) a) (family (map_of s) b)

  abbrev lo_left : Seated → List (List ℕ) → Type 0
  lo_left p = IsWithout (family (map_of p) halves.first.lo) (family (map_of p) halves.second.lo)

  abbrev lo_due : Seated → List (List ℕ) → Type 0
  lo_due p = IsMadeByWithout (family (map_of p) halves.first.lo) (family (map_of p) halves.second.lo)

  to_lo : (h : List (List ℕ)) → lo_due s h → all h
  to_lo =
      without_makes_lo halves.level _ _ cut.go_on.0 cut.go_on.1 (one_cut cut)
      (IsFamily-family (map_of s) halves.first.hi cut.sound.closed cut.are.first.knows_hi) cut.are.first.halved
      cut.are.second.halved

  pub without_lo_full : {s1 : Seated} → WasFull (lo_due q) q s1 → WasFull all s s1
  without_lo_full {s1 = s1} full =
      WasFull-as (lo_due s) all to_lo s s1 (subst (λ (p : Seated). WasFull (lo_due p) p s1) cut.same full)

  module _ {s1 : Seated} {lo : ℕ} (gave_lo : Gave (lo_left q) (lo_due q) q s1 lo) where
    gave : Gave (lo_left s) (lo_due s) s s1 lo
    gave = subst (λ (p : Seated). Gave (lo_left p) (lo_due p) p s1 lo) cut.same gave_lo

    pub without_lo_on : WentOn all s s1
    without_lo_on = WentOn-as (lo_due s) all to_lo s s1 gave.on

    abbrev hi_due : List (List ℕ) → Type 0
    hi_due = IsMadeByWithout (family (map_of s1) halves.first.hi) (family (map_of s1) halves.second.hi)

    to_hi : (h : List (List ℕ)) → hi_due h → all h
    to_hi h made =
        without_makes_hi halves.level _ _ cut.go_on.0 cut.go_on.1 (one_cut cut)
        (IsFamily-family (map_of s) halves.first.hi cut.sound.closed cut.are.first.knows_hi) cut.are.first.halved
        cut.are.second.halved (at_his cut without_lo_on (λ f g. IsMadeByWithout f g h) made)

    pub without_hi_full : {s2 : Seated} → WasFull hi_due s1 s2 → WasFull all s s2
    without_hi_full {s2 = s2} full = WasFull-next hi_due s2 without_lo_on to_hi full

    module _ {s2 : Seated} {w : ℕ} (gave2 : Gave (IsWithout (family (map_of s1) halves.first.hi)
        (family (map_of s1) halves.second.hi)) hi_due s1 s2 w) where
      on2 : WentOn all s s2
      on2 = WentOn-next hi_due s2 without_lo_on to_hi gave2.on

      w_is : IsWithout (family (map_of s) halves.first.hi) (family (map_of s) halves.second.hi) (family (map_of s2) w)
      w_is = at_his cut without_lo_on (λ f g. IsWithout f g (family (map_of s2) w)) gave2.known.1

      w_above : IsAbove halves.level (family (map_of s2) w)
      w_above = without-above halves.level w_is (first_cut cut).hi_above

      pub without_rest_next : (levels_left (map_of s2) w halves.second.lo < levels_left (map_of s) a b)
          × KnowsBoth s2 w halves.second.lo
      without_rest_next = (
        fewer_left (map_of s2) w halves.second.lo cut.are
            (level-above (map_of s2) halves.level w on2.went.sound.closed gave2.known.0
            (let u = cut.are.unit.1 in omega arith) w_above)
            (still_above cut on2 halves.second.lo cut.are.second.knows_lo cut.are.second.lo_above),
        record {
          sound = on2.went.sound;
          first = gave2.known.0;
          second = (still cut on2 halves.second.lo cut.are.second.knows_lo).0;
        },
      )

      abbrev rest_due : List (List ℕ) → Type 0
      rest_due = IsMadeByWithout (family (map_of s2) w) (family (map_of s2) halves.second.lo)

      to_rest : (h : List (List ℕ)) → rest_due h → all h
      to_rest h made =
          without_makes_rest halves.level _ _ cut.go_on.0 cut.go_on.1 (one_cut cut)
          (IsFamily-family (map_of s) halves.first.hi cut.sound.closed cut.are.first.knows_hi) cut.are.first.halved
          cut.are.second.halved w_is (subst (λ g. IsMadeByWithout (family (map_of s2) w) g h)
          (still cut on2 halves.second.lo cut.are.second.knows_lo).1 made)

      pub without_rest_full : {s3 : Seated} → WasFull rest_due s2 s3 → WasFull all s s3
      without_rest_full {s3 = s3} full = WasFull-next rest_due s3 on2 to_rest full

      module _ {s3 : Seated} {hi : ℕ} (gave3 : Gave
          (IsWithout (family (map_of s2) w) (family (map_of s2) halves.second.lo)) rest_due s2 s3 hi) where
        lo_known : KnowsOne (map_of s3) lo (lo_left s)
        lo_known =
            known_stays (lo_left s) lo gave2.on.went.sound gave3.on
            (known_stays (lo_left s) lo gave.on.went.sound gave2.on gave.known)

        hi_is : IsWithout (family (map_of s2) w) (family (map_of s) halves.second.lo) (family (map_of s3) hi)
        hi_is =
            subst (λ g. IsWithout (family (map_of s2) w) g (family (map_of s3) hi))
            (still cut on2 halves.second.lo cut.are.second.knows_lo).1 gave3.known.1

        pub without_lo_knows : Knows (map_of s3) lo
        without_lo_knows = lo_known.0

        pub without_lo_above : IsAbove halves.level (family (map_of s3) lo)
        without_lo_above = without-above halves.level lo_known.1 (first_cut cut).lo_above

        pub without_hi_above : IsAbove halves.level (family (map_of s3) hi)
        without_hi_above = without-above halves.level hi_is w_above

        abbrev made : List (List ℕ) → Type 0
        made = IsBranch halves.level (family (map_of s3) lo) (family (map_of s3) hi)

        to_is : (h : List (List ℕ)) → made h → IsWithout (family (map_of s) a) (family (map_of s) b) h
        to_is h is =
            subst (IsWithout (family (map_of s) a) (family (map_of s) b)) (sym is)
            (without-step halves.level _ _ _ _ _ _ _ (family (map_of s2) w) _ (first_cut cut) (second_cut cut)
            lo_known.1 w_is hi_is)

        pub without_made : {E : Type 0} (s4 : Seated) (result : Result ℕ E)
            → MatchResult result (Gave made made s3 s4) (λ _. WasFull made s3 s4)
            → MatchResult result (Gave (IsWithout (family (map_of s) a) (family (map_of s) b)) all s s4)
            (λ _. WasFull all s s4)
        without_made s4 result m =
            made_after made (IsWithout (family (map_of s) a) (family (map_of s) b)) to_is
            (λ h is. (cut.go_on.0, cut.go_on.1, without_itself (to_is h is))) s4
            (WentOn-next rest_due s3 on2 to_rest gave3.on) result m
