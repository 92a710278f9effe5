-- A union of many families by their least unit, over what a memory holds one call after another.
use Rattle.std.proofs.Common.{Result, MatchResult, ◌≡◌, ℕ, zero, suc, ◌+◌, ◌-◌, ◌<◌, ◌≤◌, List, [], ◌∷◌, ◌++◌, min}
use Rattle.std.proofs.Common.{All, Contains, take, drop, get_or, length, refl, sym, ◌∙◌, ap, subst, arith}
use Rattle.std.proofs.Common.{inl, inr, slice_set}
use Rattle.std.proofs.lemmas.Bool.{cases_lt}
use Rattle.std.proofs.lemmas.List.{get_or-set_other, get_or-set_same, map-append}
use Rattle.std.proofs.lemmas.List.Elements.{All-contains, All-drop, All-from_get_or, All-tail}
use Rattle.zdd_families.specs.Family.{IsAbove, sets_with, sets_without}
use Rattle.zdd_families.specs.{Map.level_in, Cuts.Cuts, Least.IsLeastOfAll, Least.IsLeastUnion}
use Rattle.zdd_families.proofs.{MapLemmas.family-empty, Many.least_of_none, Many.least_of_one}
use Rattle.family_memory.specs.Memory.{Held, Has, IsSound, Went, Gave, RanOut, family_in, map_of}
use Rattle.family_memory.proofs.After.{Gave-there, Went-then, ended, still, still_has}
use Rattle.minimal_operations.specs.{Halves.IsHalf, Rests.IsRidBranch, declared.halves.Half.Half}
use Rattle.many_families.specs.Lists.{families}
use Rattle.many_families.specs.Chains.{AreFrom, IsLowered, uppers}
use Rattle.many_families.proofs.Levels.{AreCut, least_of_levels, lowers, lowers_above, own_hi, own_lo, uppers_above}
use Rattle.many_families.proofs.{Lists.families_parts, Lists.families_stay, ManySteps.both_united}

-- ---- the measure: how many levels there are from the least of a list on

abbrev pub least_level : Held → List ℕ → ℕ
least_level held [] = 4096
least_level held (r ∷ list) = min (level_in (map_of held) r) (least_level held list)

least_from : (held : Held) (floor : ℕ) (list : List ℕ) → floor ≤ 4096 → AreFrom held floor list
    → floor ≤ least_level held list
least_from held floor [] most from = most
least_from held floor (r ∷ list) most from =
    let h = from 0 0 (omega arith) in
    let k = least_from held floor list most (All-tail (λ q. floor ≤ level_in (map_of held) q) r list from) in
    omega (arith, h, k)

least_at : (held : Held) (list : List ℕ) (place : ℕ) → place < length list
    → least_level held list ≤ level_in (map_of held) (get_or list place 0)
least_at held [] place inside = absurd (omega (arith, inside))
least_at held (r ∷ list) zero inside = omega arith
least_at held (r ∷ list) (suc place) inside =
    let h = least_at held list place (omega (arith, inside)) in omega (arith, h)

pub fewer_levels : (held after : Held) (list lower : List ℕ) (r : ℕ) {x : ℕ} → Contains list r
    → level_in (map_of held) r ≡ x → x < 4096 → AreFrom after (x + 1) lower
    → 4096 - least_level after lower < 4096 - least_level held list
fewer_levels held after list lower r {x} member here unit from =
    let most : least_level held list ≤ level_in (map_of held) r =
    All-contains (λ q. least_level held list ≤ level_in (map_of held) q) list r
    (All-from_get_or (λ q. least_level held list ≤ level_in (map_of held) q) list 0 (least_at held list)) member in
    let more : x + 1 ≤ least_level after lower = least_from after (x + 1) lower (omega (arith, unit)) from in
    omega (arith, most, more, here, unit)

-- ---- the list whose references were lowered

-- each place has the lowered reference of the other list's
abbrev pub AreLowered : Held → ℕ → List ℕ → List ℕ → Type 0
AreLowered held x list lower =
    (place : ℕ) → place < length list → IsLowered held x (get_or list place 0) (get_or lower place 0)

module _ (held : Held) (x : ℕ) where
  tail_lowered : (r q : ℕ) (list lower : List ℕ) → AreLowered held x (r ∷ list) (q ∷ lower)
      → AreLowered held x list lower
  tail_lowered r q list lower each place inside = each (suc place) (omega (arith, inside))

  pub cut_all : (list lower : List ℕ) → length lower ≡ length list → AreLowered held x list lower
      → AreCut x (families held list)
  cut_all [] lower size each = tt
  cut_all (r ∷ list) [] size each = absurd (omega (arith, size))
  cut_all (r ∷ list) (q ∷ lower) size each =
      let one = each 0 (omega arith) in (
        subst (λ lo. Cuts x (family_in held r) lo (sets_with x (family_in held r))) (sym (own_lo one.cut)) one.cut,
        cut_all list lower (omega (arith, size)) (tail_lowered r q list lower each),
      )

  pub lowered_families : (list lower : List ℕ) → length lower ≡ length list → AreLowered held x list lower
      → families held lower ≡ lowers x (families held list)
  lowered_families [] [] size each = refl
  lowered_families [] (q ∷ lower) size each = absurd (omega (arith, size))
  lowered_families (r ∷ list) [] size each = absurd (omega (arith, size))
  lowered_families (r ∷ list) (q ∷ lower) size each =
      let one = each 0 (omega arith) in
      ap (λ f. f ∷ families held lower) (sym (own_lo one.cut))
      ∙ ap (λ fs. sets_without x (family_in held r) ∷ fs)
      (lowered_families list lower (omega (arith, size)) (tail_lowered r q list lower each))

  pub lowered_has : (list lower : List ℕ) → length lower ≡ length list → AreLowered held x list lower
      → All (Has held) lower
  lowered_has list lower size each =
      All-from_get_or (Has held) lower 0 (λ place inside. (each place (omega (arith, size, inside))).has)

  pub lowered_from : (list lower : List ℕ) → length lower ≡ length list → AreLowered held x list lower
      → AreFrom held (x + 1) lower
  lowered_from list lower size each =
      All-from_get_or (λ r. x + 1 ≤ level_in (map_of held) r) lower 0 (λ place inside.
      let h = (each place (omega (arith, size, inside))).above in omega (arith, h))

-- one more
lowered_one : {held : Held} {x r : ℕ} {half : Half} → IsHalf held x r half → IsLowered held x r half.lo
lowered_one {held} {x} {r} {half} is = record {
  has = is.has_lo;
  above = is.lo_above;
  cut = subst (λ hi. Cuts x (family_in held r) (family_in held half.lo) hi) (sym (own_hi is.cut)) is.cut;
}

module _ {held : Held} {x : ℕ} (place : ℕ) (before list : List ℕ) {half : Half} (inside : place < length list)
    (waits : get_or list place 0 ≡ get_or before place 0)
    (each : (at : ℕ) → at < place → IsLowered held x (get_or before at 0) (get_or list at 0))
    (is : IsHalf held x (get_or list place 0) half) where
  pub lowered_more : (at : ℕ) → at < place + 1
      → IsLowered held x (get_or before at 0) (get_or (slice_set list place half.lo) at 0)
  lowered_more at before_end =
      elim (cases_lt at place) [
        | inl earlier ↦
            subst (IsLowered held x (get_or before at 0))
            (sym (get_or-set_other list place at half.lo 0 (λ same. omega (arith, earlier, same)))) (each at earlier)
        | inr not ↦
            let here : at ≡ place = omega (arith, before_end, not) in
            subst (λ n. IsLowered held x (get_or before n 0) (get_or (slice_set list place half.lo) n 0)) (sym here)
            (subst (IsLowered held x (get_or before place 0)) (sym (get_or-set_same list place half.lo 0 inside))
            (subst (λ r. IsLowered held x r half.lo) waits (lowered_one is)))
      ]

pub waits_on : (before list : List ℕ) (place q at : ℕ) → place + 1 ≤ at → get_or list at 0 ≡ get_or before at 0
    → get_or (slice_set list place q) at 0 ≡ get_or before at 0
waits_on before list place q at past waits =
    get_or-set_other list place at q 0 (λ same. omega (arith, past, same)) ∙ waits

-- ---- the sets with the unit

-- of none
pub upper_of_none : {held : Held} (x : ℕ) (list : List ℕ) → IsSound held → length list ≡ 0
    → Gave (IsLeastOfAll (uppers x (families held list))) held held 0
upper_of_none {held} x [] sound none =
    Gave-there sound (let some = sound.terminals in omega (arith, some))
    (subst (IsLeastOfAll []) (sym (family-empty (map_of held))) least_of_none)
upper_of_none x (r ∷ list) sound none = absurd (omega (arith, none))

-- of one family
pub upper_of_one : {held : Held} {x : ℕ} (list : List ℕ) {half : Half} → IsSound held → length list ≡ 1
    → IsHalf held x (get_or list 0 0) half → Gave (IsLeastOfAll (uppers x (families held list))) held held half.hi
upper_of_one [] sound one is = absurd (omega (arith, one))
upper_of_one {held} (r ∷ []) {half} sound one is =
    Gave-there sound is.has_hi (subst (λ f. IsLeastOfAll (f ∷ []) (family_in held half.hi)) (sym (own_hi is.cut))
    (least_of_one (sound.antichains half.hi is.has_hi)))
upper_of_one (r ∷ q ∷ list) sound one is = absurd (omega (arith, one))

-- of both halves
module _ {s0 s1 s2 : Held} (x : ℕ) (list : List ℕ) (middle : ℕ) (sound : IsSound s0) (has : All (Has s0) list)
    {first second : ℕ} (gave1 : Gave (IsLeastOfAll (uppers x (families s0 (take middle list)))) s0 s1 first)
    (gave2 : Gave (IsLeastOfAll (uppers x (families s1 (drop middle list)))) s1 s2 second) where
  of_rest : Gave (IsLeastOfAll (uppers x (families s0 (drop middle list)))) s1 s2 second
  of_rest =
      subst (λ fs. Gave (IsLeastOfAll (uppers x fs)) s1 s2 second)
      (families_stay (drop middle list) sound gave1.went (All-drop (Has s0) middle list has)) gave2

  parts : uppers x (families s0 list)
      ≡ uppers x (families s0 (take middle list)) ++ uppers x (families s0 (drop middle list))
  parts =
      ap (uppers x) (families_parts s0 middle list)
      ∙ map-append (sets_with x) (families s0 (take middle list)) (families s0 (drop middle list))

  pub uppers_united : {E : Type 0} (s3 : Held) (result : Result ℕ E)
      → MatchResult result (Gave (IsLeastUnion (family_in s2 first) (family_in s2 second)) s2 s3) (λ _. RanOut s2 s3)
      → MatchResult result (Gave (IsLeastOfAll (uppers x (families s0 list))) s0 s3) (λ _. RanOut s0 s3)
  uppers_united s3 result m =
      subst (λ fs. MatchResult result (Gave (IsLeastOfAll fs) s0 s3) (λ _. RanOut s0 s3)) (sym parts)
      (both_united (uppers x (families s0 (take middle list))) (uppers x (families s0 (drop middle list))) gave1 of_rest
      s3 result m)

-- ---- the node of both

module _ {s0 s1 : Held} (x : ℕ) (list lower : List ℕ) {all : ℕ} (sound : IsSound s0) (has : All (Has s0) list)
    (gave_all : Gave (IsLeastOfAll (uppers x (families s0 list))) s0 s1 all) (size : length lower ≡ length list)
    (each : AreLowered s1 x list lower) where
  same_fs : families s1 list ≡ families s0 list
  same_fs = families_stay list sound gave_all.went has

  cut : AreCut x (families s0 list)
  cut = subst (AreCut x) same_fs (cut_all s1 x list lower size each)

  lower_fs : families s1 lower ≡ lowers x (families s0 list)
  lower_fs = lowered_families s1 x list lower size each ∙ ap (lowers x) same_fs

  module _ {s2 : Held} {lo : ℕ} (gave_lo : Gave (IsLeastOfAll (families s1 lower)) s1 s2 lo) where
    pub went_levels : Went s0 s2
    went_levels = Went-then gave_all.went gave_lo.went

    of_lo : IsLeastOfAll (lowers x (families s0 list)) (family_in s2 lo)
    of_lo = subst (λ gs. IsLeastOfAll gs (family_in s2 lo)) lower_fs gave_lo.is

    of_all : IsLeastOfAll (uppers x (families s0 list)) (family_in s2 all)
    of_all =
        subst (IsLeastOfAll (uppers x (families s0 list)))
        (sym (still gave_all.went.sound gave_lo.went all gave_all.has)) gave_all.is

    pub has_all : Has s2 all
    has_all = still_has gave_all.went.sound gave_lo.went all gave_all.has

    pub lo_above : IsAbove x (family_in s2 lo)
    lo_above = lowers_above x (families s0 list) cut of_lo

    pub all_above : IsAbove x (family_in s2 all)
    all_above = uppers_above x (families s0 list) cut of_all

    pub levels_united : {E : Type 0} (s3 : Held) (result : Result ℕ E)
        → MatchResult result (Gave (IsRidBranch x (family_in s2 lo) (family_in s2 all)) s2 s3) (λ _. RanOut s2 s3)
        → MatchResult result (Gave (IsLeastOfAll (families s0 list)) s0 s3) (λ _. RanOut s0 s3)
    levels_united s3 result m =
        ended s3 went_levels (IsRidBranch x (family_in s2 lo) (family_in s2 all))
        (IsLeastOfAll (families s0 list)) result
        (λ f rid. subst (IsLeastOfAll (families s0 list)) (sym rid.is)
        (least_of_levels x (families s0 list) cut of_lo of_all rid.left)) m
