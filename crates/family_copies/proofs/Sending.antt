-- A node of a memory in the store, by copies of its parts.
use Rattle.std.proofs.Common.{MatchResult, Result, Ok, Err, ◌≡◌, ◌≢◌, ℕ, ◌<◌, List, [], get_or, sym, ◌∙◌, ap, subst}
use Rattle.std.proofs.Common.{inl}
use Rattle.zdd_words.specs.declared.word.Parts.{Parts}
use Rattle.zdd_families.specs.{Family.IsAbove, Family.branch, Due.Splits}
use Rattle.zdd_families.specs.Map.{Knows, KnowsAs, family}
use Rattle.zdd_families.proofs.{MapLemmas.family-empty, Canonical.family-filled}
use Rattle.zdd_families.specs.Nodes.{IsReached, reached_itself, reached_lo, reached_hi}
use Rattle.family_memory.specs.Memory.{Held, Has, IsSound, IsNodeOf, family_in, map_of as own_map}
use Rattle.family_memory.proofs.After.{knows as own_known}
use Rattle.zdd_shared_table.specs.Seats.{Seated, IsSoundSeat, map_of}
use Rattle.zdd_product.specs.Seats.{IsBranch, Went, WentOn, Gave, WasFull}
use Rattle.zdd_product.proofs.After.{Gave-known, WasFull-as, WasFull-next, WentOn-as, WentOn-next, made_after, stays}
use Rattle.family_copies.specs.{Copies.AreCopies, Copies.IsCopy, Parts.CanMake}
use Rattle.family_copies.proofs.CopiesLemmas.{copies-grown}
use Rattle.family_copies.proofs.Parting.{fewer, levels_above, same_terminal}

-- ---- whatever the answer

went_of : {E : Type 0} (is : List (List ℕ) → Type 0) {due : List (List ℕ) → Type 0} {before after : Seated}
    (result : Result ℕ E)
    → MatchResult result (Gave is due before after) (λ _. WasFull due before after) → Went due before after
went_of is (Ok r) gave = gave.on.went
went_of is (Err e) full = full.went

-- ---- what stands already

module _ (held : Held) (r : ℕ) (seat : Seated) (sound : IsSoundSeat seat) where
  pub terminal_known : r < 2 → Gave (λ f. f ≡ family_in held r) (IsReached (family_in held r)) seat seat r
  terminal_known small =
      Gave-known (IsReached (family_in held r)) seat sound
      (inl small, same_terminal (map_of seat) (own_map held) r small)

  pub copy_known : (copies : List ℕ) {shared : ℕ} → AreCopies held (map_of seat) copies → shared ≡ get_or copies r 0
      → shared ≢ 0 → Gave (λ f. f ≡ family_in held r) (IsReached (family_in held r)) seat seat shared
  copy_known copies {shared} are noted some =
      let is : IsCopy held (map_of seat) shared r =
      subst (λ q. IsCopy held (map_of seat) q r) (sym noted) (are r (λ none. some (noted ∙ none))) in
      Gave-known (IsReached (family_in held r)) seat sound (is.knows, sym is.same)

pub copy_sent : (held : Held) {due : List (List ℕ) → Type 0} {before after : Seated} (r : ℕ) {shared : ℕ} → Has held r
    → Gave (λ f. f ≡ family_in held r) due before after shared → IsCopy held (map_of after) shared r
copy_sent held r has gave = record { knows = gave.known.0; has = has; same = sym gave.known.1 }

-- ---- the steps

module _ (held : Held) (r : ℕ) (parts : Parts) (sound : IsSound held) (are : IsNodeOf held r parts) where
  abbrev due : List (List ℕ) → Type 0
  due = IsReached (family_in held r)

  abbrev lo_due : List (List ℕ) → Type 0
  lo_due = IsReached (family_in held parts.lo)

  abbrev hi_due : List (List ℕ) → Type 0
  hi_due = IsReached (family_in held parts.hi)

  some_hi : family_in held parts.hi ≢ []
  some_hi = family-filled (own_map held) parts.hi sound.closed (own_known parts.hi sound are.has_hi) are.filled

  splits : Splits parts.level (family_in held r) (family_in held parts.lo) (family_in held parts.hi)
  splits = record { cut = are.cut; some_with = some_hi }

  to_lo : (f : List (List ℕ)) → lo_due f → due f
  to_lo f reached = reached_lo splits reached

  to_hi : (f : List (List ℕ)) → hi_due f → due f
  to_hi f reached = reached_hi splits reached

  pub lo_fewer : levels_above (own_map held) parts.lo < levels_above (own_map held) r
  lo_fewer = fewer (own_map held) r parts.lo are.unit are.level are.lo_above

  pub hi_fewer : levels_above (own_map held) parts.hi < levels_above (own_map held) r
  hi_fewer = fewer (own_map held) r parts.hi are.unit are.level are.hi_above

  pub lo_full : {s0 s1 : Seated} → WasFull lo_due s0 s1 → WasFull due s0 s1
  lo_full {s0} {s1} full = WasFull-as lo_due due to_lo s0 s1 full

  module _ {s0 s1 : Seated} {lo : ℕ} (gave_lo : Gave (λ f. f ≡ family_in held parts.lo) lo_due s0 s1 lo) where
    on1 : WentOn due s0 s1
    on1 = WentOn-as lo_due due to_lo s0 s1 gave_lo.on

    pub hi_full : {s2 : Seated} → WasFull hi_due s1 s2 → WasFull due s0 s2
    hi_full {s2} full = WasFull-next hi_due s2 on1 to_hi full

    module _ {s2 : Seated} {hi : ℕ} (gave_hi : Gave (λ f. f ≡ family_in held parts.hi) hi_due s1 s2 hi) where
      on2 : WentOn due s0 s2
      on2 = WentOn-next hi_due s2 on1 to_hi gave_hi.on

      lo_at : KnowsAs (map_of s2) lo (family (map_of s1) lo)
      lo_at = stays s1 s2 lo gave_lo.on.went.sound gave_hi.on.went.sound gave_hi.on.went.keeps gave_lo.known.0

      lo_is : family (map_of s2) lo ≡ family_in held parts.lo
      lo_is = lo_at.1 ∙ gave_lo.known.1

      pub can_make : CanMake (Knows (map_of s2)) (family (map_of s2)) parts.level lo hi
      can_make = record {
        has_lo = lo_at.0;
        has_hi = gave_hi.known.0;
        filled = λ none. some_hi (sym gave_hi.known.1 ∙ ap (family (map_of s2)) none ∙ family-empty (map_of s2));
        lo_above = subst (IsAbove parts.level) (sym lo_is) are.cut.lo_above;
        hi_above = subst (IsAbove parts.level) (sym gave_hi.known.1) are.cut.hi_above;
      }

      branch_is : branch parts.level (family (map_of s2) lo) (family (map_of s2) hi) ≡ family_in held r
      branch_is =
          ap (λ f. branch parts.level f (family (map_of s2) hi)) lo_is
          ∙ ap (branch parts.level (family_in held parts.lo)) gave_hi.known.1 ∙ sym are.cut.is

      abbrev made : List (List ℕ) → Type 0
      made = IsBranch parts.level (family (map_of s2) lo) (family (map_of s2) hi)

      module _ {E : Type 0} (s3 : Seated) (result : Result ℕ E)
          (m : MatchResult result (Gave made made s2 s3) (λ _. WasFull made s2 s3)) where
        pub sent : MatchResult result (Gave (λ f. f ≡ family_in held r) due s0 s3) (λ _. WasFull due s0 s3)
        sent =
            made_after made (λ f. f ≡ family_in held r) (λ f e. e ∙ branch_is)
            (λ f e. subst due (sym (e ∙ branch_is)) (reached_itself splits)) s3 on2 result m

        went : Went made s2 s3
        went = went_of made result m

        pub copies_kept : (copies : List ℕ) → AreCopies held (map_of s2) copies → AreCopies held (map_of s3) copies
        copies_kept copies are_copies =
            copies-grown held (map_of s2) (map_of s3) on2.went.sound.closed went.sound.closed went.keeps copies
            are_copies
