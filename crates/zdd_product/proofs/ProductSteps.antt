-- A product by the halves of both references: the product of both lo, and three products that two unions join.
use Rattle.std.proofs.Common.{Result, MatchResult, ◌≡◌, ◌⊎◌, ℕ, ◌<◌, ◌≤◌, List, refl, sym, subst, inl, inr}
use Rattle.std.proofs.lemmas.Result.{MatchResult-weaker}
use Rattle.zdd_families.specs.{Family.IsAbove, Union.IsUnion, Product.IsProduct, Product.IsProductOfParts}
use Rattle.zdd_families.specs.{Due.product_itself}
use Rattle.zdd_families.specs.Map.{Knows, KnowsAs, family}
use Rattle.zdd_families.proofs.{Canonical.IsFamily-family, UnionLemmas.union-above, ProductLemmas.product-above}
use Rattle.zdd_families.proofs.{ProductLemmas.product-step}
use Rattle.zdd_shared_table.specs.Seats.{Seated, map_of}
use Rattle.zdd_product.specs.{declared.halves.Half.Half, declared.halves.Halves.Halves, Halves.KnowsHalves}
use Rattle.zdd_product.specs.Due.{IsMadeByUnion, IsMadeByProduct, IsProductWith, IsMadeWith, with_both, with_first}
use Rattle.zdd_product.specs.Due.{with_some, with_second, with_all}
use Rattle.zdd_product.specs.Seats.{IsBranch, KnowsBoth, KnowsOne, WentOn, Gave, WasFull}
use Rattle.zdd_product.proofs.Halving.{levels_left, levels_with, fewer_with, fewer_of_halves}
use Rattle.zdd_product.proofs.Halved.{Halved, AreInner, first_cut, second_cut, one_cut, still, at_his}
use Rattle.zdd_product.proofs.After.{stays, at_both, known_stays, WentOn-as, WasFull-as, WentOn-next, WasFull-next}
use Rattle.zdd_product.proofs.After.{made_after}
use Rattle.zdd_product.proofs.ProductParts.{product_makes_lo, product_makes_with}

-- ---- the sets with the unit

module _ {s0 : Seated} {first second : Half} (at : KnowsHalves s0 first second) where
  abbrev due : List (List ℕ) → Type 0
  due =
      IsMadeWith (family (map_of s0) first.lo) (family (map_of s0) first.hi) (family (map_of s0) second.lo)
      (family (map_of s0) second.hi)

  abbrev both : List (List ℕ) → Type 0
  both = IsProduct (family (map_of s0) first.hi) (family (map_of s0) second.hi)

  abbrev both_due : List (List ℕ) → Type 0
  both_due = IsMadeByProduct (family (map_of s0) first.hi) (family (map_of s0) second.hi)

  pub both_full : {s1 : Seated} → WasFull both_due s0 s1 → WasFull due s0 s1
  both_full {s1 = s1} full = WasFull-as both_due due (λ h made. with_both made) s0 s1 full

  -- what is known later, since all that was done kept it
  later : {s : Seated} → WentOn due s0 s → (r : ℕ) → Knows (map_of s0) r → KnowsAs (map_of s) r (family (map_of s0) r)
  later {s = s} on r knows = stays s0 s r at.sound on.went.sound on.went.keeps knows

  -- one reference of each half is next
  next : {s : Seated} → WentOn due s0 s → {r q : ℕ} → (r ≡ first.lo) ⊎ (r ≡ first.hi)
      → (q ≡ second.lo) ⊎ (q ≡ second.hi) → Knows (map_of s0) r → Knows (map_of s0) q
      → (levels_left (map_of s) r q ≤ levels_with (map_of s0) first second) × KnowsBoth s r q
  next {s = s} on {r} {q} of_first of_second knows_r knows_q = (
    fewer_of_halves (map_of s0) (map_of s) first second r q on.went.keeps at.first_known.0 at.first_known.1
        at.second_known.0 at.second_known.1 of_first of_second,
    record { sound = on.went.sound; first = (later on r knows_r).0; second = (later on q knows_q).0 },
  )

  module _ {s1 : Seated} {p : ℕ} (gave : Gave both both_due s0 s1 p) where
    on1 : WentOn due s0 s1
    on1 = WentOn-as both_due due (λ h made. with_both made) s0 s1 gave.on

    pub first_next : (levels_left (map_of s1) first.hi second.lo ≤ levels_with (map_of s0) first second)
        × KnowsBoth s1 first.hi second.lo
    first_next = next on1 (inr refl) (inl refl) at.first_known.1 at.second_known.0

    abbrev first_due : List (List ℕ) → Type 0
    first_due = IsMadeByProduct (family (map_of s1) first.hi) (family (map_of s1) second.lo)

    at_first : (R : List (List ℕ) → List (List ℕ) → Type 0)
        → R (family (map_of s1) first.hi) (family (map_of s1) second.lo)
        → R (family (map_of s0) first.hi) (family (map_of s0) second.lo)
    at_first R fact = at_both R (later on1 first.hi at.first_known.1).1 (later on1 second.lo at.second_known.0).1 fact

    to_first : (h : List (List ℕ)) → first_due h → due h
    to_first h made = with_first (at_first (λ f g. IsMadeByProduct f g h) made)

    pub first_full : {s2 : Seated} → WasFull first_due s1 s2 → WasFull due s0 s2
    first_full {s2 = s2} full = WasFull-next first_due s2 on1 to_first full

    module _ {s2 : Seated} {q : ℕ} (gave2 : Gave
        (IsProduct (family (map_of s1) first.hi) (family (map_of s1) second.lo)) first_due s1 s2 q) where
      on2 : WentOn due s0 s2
      on2 = WentOn-next first_due s2 on1 to_first gave2.on

      pub both_known : KnowsOne (map_of s2) p both
      both_known = known_stays both p gave.on.went.sound gave2.on gave.known

      q_is : IsProduct (family (map_of s0) first.hi) (family (map_of s0) second.lo) (family (map_of s2) q)
      q_is = at_first (λ f g. IsProduct f g (family (map_of s2) q)) gave2.known.1

      abbrev some : List (List ℕ) → Type 0
      some = IsUnion (family (map_of s2) p) (family (map_of s2) q)

      abbrev some_due : List (List ℕ) → Type 0
      some_due = IsMadeByUnion (family (map_of s2) p) (family (map_of s2) q)

      to_some : (h : List (List ℕ)) → some_due h → due h
      to_some h made = with_some both_known.1 q_is made

      pub some_full : {s3 : Seated} → WasFull some_due s2 s3 → WasFull due s0 s3
      some_full {s3 = s3} full = WasFull-next some_due s3 on2 to_some full

      module _ {s3 : Seated} {u : ℕ} (gave3 : Gave some some_due s2 s3 u) where
        on3 : WentOn due s0 s3
        on3 = WentOn-next some_due s3 on2 to_some gave3.on

        pub second_next : (levels_left (map_of s3) first.lo second.hi ≤ levels_with (map_of s0) first second)
            × KnowsBoth s3 first.lo second.hi
        second_next = next on3 (inl refl) (inr refl) at.first_known.0 at.second_known.1

        abbrev second_due : List (List ℕ) → Type 0
        second_due = IsMadeByProduct (family (map_of s3) first.lo) (family (map_of s3) second.hi)

        at_second : (R : List (List ℕ) → List (List ℕ) → Type 0)
            → R (family (map_of s3) first.lo) (family (map_of s3) second.hi)
            → R (family (map_of s0) first.lo) (family (map_of s0) second.hi)
        at_second R fact =
            at_both R (later on3 first.lo at.first_known.0).1 (later on3 second.hi at.second_known.1).1 fact

        to_second : (h : List (List ℕ)) → second_due h → due h
        to_second h made = with_second (at_second (λ f g. IsMadeByProduct f g h) made)

        pub second_full : {s4 : Seated} → WasFull second_due s3 s4 → WasFull due s0 s4
        second_full {s4 = s4} full = WasFull-next second_due s4 on3 to_second full

        module _ {s4 : Seated} {v : ℕ} (gave4 : Gave
            (IsProduct (family (map_of s3) first.lo) (family (map_of s3) second.hi)) second_due s3 s4 v) where
          on4 : WentOn due s0 s4
          on4 = WentOn-next second_due s4 on3 to_second gave4.on

          pub some_known : KnowsOne (map_of s4) u some
          some_known = known_stays some u gave3.on.went.sound gave4.on gave3.known

          v_is : IsProduct (family (map_of s0) first.lo) (family (map_of s0) second.hi) (family (map_of s4) v)
          v_is = at_second (λ f g. IsProduct f g (family (map_of s4) v)) gave4.known.1

          abbrev all_due : List (List ℕ) → Type 0
          all_due = IsMadeByUnion (family (map_of s4) u) (family (map_of s4) v)

          to_all : (h : List (List ℕ)) → all_due h → due h
          to_all h made = with_all both_known.1 q_is some_known.1 v_is made

          all_is : {h : List (List ℕ)} → IsUnion (family (map_of s4) u) (family (map_of s4) v) h
              → IsProductWith (family (map_of s0) first.lo) (family (map_of s0) first.hi) (family (map_of s0) second.lo)
              (family (map_of s0) second.hi) h
          all_is is = record {
            both_with = family (map_of s2) p;
            first_with = family (map_of s2) q;
            second_with = family (map_of s4) v;
            some_with = family (map_of s4) u;
            both_is = both_known.1;
            first_is = q_is;
            some_is = some_known.1;
            second_is = v_is;
            all_is = is;
          }

          pub product_with : {E : Type 0} (s5 : Seated) (result : Result ℕ E)
              → MatchResult result (Gave (IsUnion (family (map_of s4) u) (family (map_of s4) v)) all_due s4 s5)
              (λ _. WasFull all_due s4 s5)
              → MatchResult result (Gave (IsProductWith (family (map_of s0) first.lo) (family (map_of s0) first.hi)
              (family (map_of s0) second.lo) (family (map_of s0) second.hi)) due s0 s5) (λ _. WasFull due s0 s5)
          product_with s5 result m =
              MatchResult-weaker result m
              (λ r gave5. record {
                on = WentOn-next all_due s5 on4 to_all gave5.on;
                known = (gave5.known.0, all_is gave5.known.1);
              }) (λ _ full. WasFull-next all_due s5 on4 to_all full)

-- ---- the whole product

module _ {q s : Seated} {a b : ℕ} {halves : Halves} (cut : Halved AreInner q s a b halves) where
  abbrev all : List (List ℕ) → Type 0
  all = IsMadeByProduct (family (map_of s) a) (family (map_of s) b)

  abbrev lo_product : Seated → List (List ℕ) → Type 0
  lo_product p = IsProduct (family (map_of p) halves.first.lo) (family (map_of p) halves.second.lo)

  abbrev lo_due : Seated → List (List ℕ) → Type 0
  lo_due p = IsMadeByProduct (family (map_of p) halves.first.lo) (family (map_of p) halves.second.lo)

  to_lo : (h : List (List ℕ)) → lo_due s h → all h
  to_lo =
      product_makes_lo halves.level _ _ cut.go_on.0 cut.go_on.1 (one_cut cut) cut.are.first.halved cut.are.second.halved

  pub product_lo_full : {s1 : Seated} → WasFull (lo_due q) q s1 → WasFull all s s1
  product_lo_full {s1 = s1} full =
      WasFull-as (lo_due s) all to_lo s s1 (subst (λ (p : Seated). WasFull (lo_due p) p s1) cut.same full)

  module _ {s1 : Seated} {lo : ℕ} (gave_lo : Gave (lo_product q) (lo_due q) q s1 lo) where
    gave : Gave (lo_product s) (lo_due s) s s1 lo
    gave = subst (λ (p : Seated). Gave (lo_product p) (lo_due p) p s1 lo) cut.same gave_lo

    on : WentOn all s s1
    on = WentOn-as (lo_due s) all to_lo s s1 gave.on

    pub product_with_next : (levels_with (map_of s1) halves.first halves.second < levels_left (map_of s) a b)
        × KnowsHalves s1 halves.first halves.second
    product_with_next = (
      fewer_with (map_of s1) cut.are on.went.keeps,
      record {
        sound = on.went.sound;
        first_known = (
          (still cut on halves.first.lo cut.are.first.knows_lo).0,
          (still cut on halves.first.hi cut.are.first.knows_hi).0,
        );
        second_known = (
          (still cut on halves.second.lo cut.are.second.knows_lo).0,
          (still cut on halves.second.hi cut.are.second.knows_hi).0,
        );
      },
    )

    abbrev with_is : List (List ℕ) → Type 0
    with_is =
        IsProductWith (family (map_of s1) halves.first.lo) (family (map_of s1) halves.first.hi)
        (family (map_of s1) halves.second.lo) (family (map_of s1) halves.second.hi)

    abbrev with_due : List (List ℕ) → Type 0
    with_due =
        IsMadeWith (family (map_of s1) halves.first.lo) (family (map_of s1) halves.first.hi)
        (family (map_of s1) halves.second.lo) (family (map_of s1) halves.second.hi)

    -- a fact of the four halves, at what they stood for before
    at_four : (R : List (List ℕ) → List (List ℕ) → List (List ℕ) → List (List ℕ) → Type 0)
        → R (family (map_of s1) halves.first.lo) (family (map_of s1) halves.first.hi)
        (family (map_of s1) halves.second.lo) (family (map_of s1) halves.second.hi)
        → R (family (map_of s) halves.first.lo) (family (map_of s) halves.first.hi) (family (map_of s) halves.second.lo)
        (family (map_of s) halves.second.hi)
    at_four R fact =
        at_his cut on (λ f1 g1. R (family (map_of s) halves.first.lo) f1 (family (map_of s) halves.second.lo) g1)
        (at_both (λ f0 g0. R f0 (family (map_of s1) halves.first.hi) g0 (family (map_of s1) halves.second.hi))
        (still cut on halves.first.lo cut.are.first.knows_lo).1
        (still cut on halves.second.lo cut.are.second.knows_lo).1 fact)

    to_with : (h : List (List ℕ)) → with_due h → all h
    to_with h made =
        product_makes_with halves.level _ _ cut.go_on.0 cut.go_on.1 (one_cut cut) cut.are.first.halved
        cut.are.second.halved (at_four (λ f0 f1 g0 g1. IsMadeWith f0 f1 g0 g1 h) made)

    pub product_hi_full : {s2 : Seated} → WasFull with_due s1 s2 → WasFull all s s2
    product_hi_full {s2 = s2} full = WasFull-next with_due s2 on to_with full

    module _ {s2 : Seated} {hi : ℕ} (gave2 : Gave with_is with_due s1 s2 hi) where
      pub product_lo_known : KnowsOne (map_of s2) lo (lo_product s)
      product_lo_known = known_stays (lo_product s) lo gave.on.went.sound gave2.on gave.known

      hi_is : IsProductWith (family (map_of s) halves.first.lo) (family (map_of s) halves.first.hi)
          (family (map_of s) halves.second.lo) (family (map_of s) halves.second.hi) (family (map_of s2) hi)
      hi_is = at_four (λ f0 f1 g0 g1. IsProductWith f0 f1 g0 g1 (family (map_of s2) hi)) gave2.known.1

      parts : IsProductOfParts (family (map_of s) halves.first.lo) (family (map_of s) halves.first.hi)
          (family (map_of s) halves.second.lo) (family (map_of s) halves.second.hi) (family (map_of s2) lo)
          (family (map_of s2) hi)
      parts = record {
        both_with = hi_is.both_with;
        first_with = hi_is.first_with;
        second_with = hi_is.second_with;
        some_with = hi_is.some_with;
        none_is = product_lo_known.1;
        both_is = hi_is.both_is;
        first_is = hi_is.first_is;
        second_is = hi_is.second_is;
        some_is = hi_is.some_is;
        all_is = hi_is.all_is;
      }

      pub product_lo_above : IsAbove halves.level (family (map_of s2) lo)
      product_lo_above =
          product-above halves.level product_lo_known.1 (first_cut cut).lo_above (second_cut cut).lo_above

      pub product_hi_above : IsAbove halves.level (family (map_of s2) hi)
      product_hi_above =
          let one = first_cut cut in
          let other = second_cut cut in
          union-above halves.level hi_is.all_is (union-above halves.level hi_is.some_is
          (product-above halves.level hi_is.both_is one.hi_above other.hi_above)
          (product-above halves.level hi_is.first_is one.hi_above other.lo_above))
          (product-above halves.level hi_is.second_is one.lo_above other.hi_above)

      abbrev made : List (List ℕ) → Type 0
      made = IsBranch halves.level (family (map_of s2) lo) (family (map_of s2) hi)

      to_is : (h : List (List ℕ)) → made h → IsProduct (family (map_of s) a) (family (map_of s) b) h
      to_is h is =
          subst (IsProduct (family (map_of s) a) (family (map_of s) b)) (sym is)
          (product-step halves.level _ _ _ _ _ _ _ _ (first_cut cut) (second_cut cut)
          (IsFamily-family (map_of s) halves.second.lo cut.sound.closed cut.are.second.knows_lo)
          (IsFamily-family (map_of s) halves.second.hi cut.sound.closed cut.are.second.knows_hi) parts)

      pub product_made : {E : Type 0} (s3 : Seated) (result : Result ℕ E)
          → MatchResult result (Gave made made s2 s3) (λ _. WasFull made s2 s3)
          → MatchResult result (Gave (IsProduct (family (map_of s) a) (family (map_of s) b)) all s s3)
          (λ _. WasFull all s s3)
      product_made s3 result m =
          made_after made (IsProduct (family (map_of s) a) (family (map_of s) b)) to_is
          (λ h is. (cut.go_on.0, cut.go_on.1, product_itself (to_is h is))) s3
          (WentOn-next with_due s2 on to_with gave2.on) result m
