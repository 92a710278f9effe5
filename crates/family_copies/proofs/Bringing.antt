-- A node of the store in a memory, by copies of its parts.
use Rattle.std.proofs.Common.{MatchResult, Result, Ok, Err, ◌≡◌, ℕ, ◌<◌, ◌≤◌, List, get_or, sym, ◌∙◌, ap}
use Rattle.std.proofs.Common.{arith, subst}
use Rattle.zdd_words.specs.declared.word.Parts.{Parts}
use Rattle.zdd_families.specs.{Family.IsAbove, Family.branch, Antichains.IsAntichain}
use Rattle.zdd_families.specs.Map.{IsClosed, Knows, family}
use Rattle.zdd_families.proofs.{MapLemmas.family-empty, Canonical.IsFamily-family, Canonical.family-filled}
use Rattle.zdd_families.proofs.{LeastNodesLemmas.antichain-lo, LeastNodesLemmas.antichain-hi}
use Rattle.family_memory.specs.Memory.{Held, Has, IsSound, Went, Gave, RanOut, family_in, map_of as own_map}
use Rattle.family_memory.proofs.After.{Gave-there, Went-then, ended, still, still_has}
use Rattle.zdd_shared_table.specs.Seats.{Seated, map_of}
use Rattle.family_copies.specs.{Copies.AreCopies, Copies.IsCopy, Parts.ArePartsOf, Parts.CanMake}
use Rattle.family_copies.proofs.CopiesLemmas.{copies-went}
use Rattle.family_copies.proofs.Parting.{fewer, levels_above, same_terminal}

-- ---- what stands already

pub terminal_there : {held : Held} (known : ℕ → ℕ) {r : ℕ} → IsSound held → r < 2
    → Gave (λ f. f ≡ family known r) held held r
terminal_there {held} known {r} sound small =
    Gave-there sound (let few = sound.terminals in omega arith) (same_terminal (own_map held) known r small)

pub copy_there : {held : Held} (known : ℕ → ℕ) (copies : List ℕ) {r own : ℕ} → IsSound held
    → AreCopies held known copies → get_or copies own 0 ≡ r → 2 ≤ r → Gave (λ f. f ≡ family known r) held held own
copy_there {held} known copies {r} {own} sound are noted inner =
    let is : IsCopy held known r own =
    subst (λ shared. IsCopy held known shared own) noted (are own (λ none. omega (arith, noted, none, inner))) in
    Gave-there sound is.has is.same

pub copy_made : {before after : Held} (known : ℕ → ℕ) (r : ℕ) {own : ℕ} → Knows known r
    → Gave (λ f. f ≡ family known r) before after own → IsCopy after known r own
copy_made known r knows gave = record { knows = knows; has = gave.has; same = gave.is }

-- ---- whatever the answer

went_of : {E : Type 0} (Is : List (List ℕ) → Type 0) {before after : Held} (result : Result ℕ E)
    → MatchResult result (Gave Is before after) (λ _. RanOut before after) → Went before after
went_of Is (Ok r) gave = gave.went
went_of Is (Err e) out = out.went

-- ---- the steps

-- the seat stays as it is, and so each step says what it gave over the same map
module _ (seat : Seated) (closed : IsClosed (map_of seat)) (r : ℕ) (parts : Parts)
    (antichain : IsAntichain (family (map_of seat) r)) (are : ArePartsOf (map_of seat) r parts) where
  abbrev known : ℕ → ℕ
  known = map_of seat

  module _ {seat1 : Seated} (same1 : seat1 ≡ seat) where
    pub lo_antichain : IsAntichain (family (map_of seat1) parts.lo)
    lo_antichain =
        subst (λ (s : Seated). IsAntichain (family (map_of s) parts.lo)) (sym same1) (antichain-lo are.cut antichain
        (IsFamily-family known parts.lo closed are.knows_lo))

    pub hi_antichain : IsAntichain (family (map_of seat1) parts.hi)
    hi_antichain =
        subst (λ (s : Seated). IsAntichain (family (map_of s) parts.hi)) (sym same1) (antichain-hi are.cut antichain
        (IsFamily-family known parts.hi closed are.knows_hi))

    pub lo_fewer : levels_above (map_of seat1) parts.lo < levels_above known r
    lo_fewer =
        subst (λ (s : Seated). levels_above (map_of s) parts.lo < levels_above known r) (sym same1)
        (fewer known r parts.lo are.unit are.level are.lo_above)

    pub hi_fewer : levels_above (map_of seat1) parts.hi < levels_above known r
    hi_fewer =
        subst (λ (s : Seated). levels_above (map_of s) parts.hi < levels_above known r) (sym same1)
        (fewer known r parts.hi are.unit are.level are.hi_above)

  module _ {seat1 seat2 : Seated} (same1 : seat1 ≡ seat) (same2 : seat2 ≡ seat) {s0 s1 s2 : Held} {lo hi : ℕ}
      (answer_lo : Gave (λ f. f ≡ family (map_of seat1) parts.lo) s0 s1 lo)
      (answer_hi : Gave (λ f. f ≡ family (map_of seat2) parts.hi) s1 s2 hi) where
    gave_lo : Gave (λ f. f ≡ family known parts.lo) s0 s1 lo
    gave_lo = subst (λ (s : Seated). Gave (λ f. f ≡ family (map_of s) parts.lo) s0 s1 lo) same1 answer_lo

    gave_hi : Gave (λ f. f ≡ family known parts.hi) s1 s2 hi
    gave_hi = subst (λ (s : Seated). Gave (λ f. f ≡ family (map_of s) parts.hi) s1 s2 hi) same2 answer_hi

    lo_is : family_in s2 lo ≡ family known parts.lo
    lo_is = still gave_lo.went.sound gave_hi.went lo gave_lo.has ∙ gave_lo.is

    branch_is : branch parts.level (family_in s2 lo) (family_in s2 hi) ≡ family known r
    branch_is =
        ap (λ f. branch parts.level f (family_in s2 hi)) lo_is
        ∙ ap (branch parts.level (family known parts.lo)) gave_hi.is ∙ sym are.cut.is

    pub can_make : CanMake (Has s2) (family_in s2) parts.level lo hi
    can_make = record {
      has_lo = still_has gave_lo.went.sound gave_hi.went lo gave_lo.has;
      has_hi = gave_hi.has;
      filled = λ none.
          family-filled known parts.hi closed are.knows_hi are.filled
          (sym gave_hi.is ∙ ap (family_in s2) none ∙ family-empty (own_map s2));
      lo_above = subst (IsAbove parts.level) (sym lo_is) are.cut.lo_above;
      hi_above = subst (IsAbove parts.level) (sym gave_hi.is) are.cut.hi_above;
    }

    pub branch_antichain : IsAntichain (branch parts.level (family_in s2 lo) (family_in s2 hi))
    branch_antichain = subst IsAntichain (sym branch_is) antichain

    abbrev made : List (List ℕ) → Type 0
    made f = f ≡ branch parts.level (family_in s2 lo) (family_in s2 hi)

    module _ {E : Type 0} (s3 : Held) (result : Result ℕ E)
        (m : MatchResult result (Gave made s2 s3) (λ _. RanOut s2 s3)) where
      pub brought : MatchResult result (Gave (λ f. f ≡ family known r) s0 s3) (λ _. RanOut s0 s3)
      brought =
          ended s3 (Went-then gave_lo.went gave_hi.went) made (λ f. f ≡ family known r) result (λ f e. e ∙ branch_is) m

      pub copies_kept : (copies : List ℕ) → AreCopies s2 (map_of seat2) copies → AreCopies s3 known copies
      copies_kept copies are_copies =
          copies-went known gave_hi.went.sound (went_of made result m) copies
          (subst (λ (s : Seated). AreCopies s2 (map_of s) copies) same2 are_copies)
