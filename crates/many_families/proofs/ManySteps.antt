-- Unions and products of many families, call by call.
use Rattle.std.proofs.Common.{Result, MatchResult, ◌≡◌, ℕ, ◌+◌, ◌-◌, ◌<◌, List, ◌++◌, All, take, drop, get_or, length}
use Rattle.std.proofs.Common.{sym, ◌∙◌, ap, subst, arith, length-drop}
use Rattle.std.proofs.{Math.Seq.take-length, lemmas.List.Elements.All-drop}
use Rattle.zdd_families.specs.Least.{IsLeastOfAll, IsLeastProductOfAll, IsLeastUnion, IsLeastProduct}
use Rattle.zdd_families.proofs.Many.{least_of_both}
use Rattle.family_memory.specs.Memory.{Held, Has, IsSound, Went, Gave, RanOut, family_in}
use Rattle.family_memory.proofs.After.{Went-then, ended, still, still_has}
use Rattle.many_families.specs.Lists.{families}
use Rattle.many_families.proofs.Lists.{families_parts, families_stay, member_family, many_families, product_goes_on}

-- the rest of a list, as the slice from a place on has it
pub rest_from : (list : List ℕ) (middle : ℕ) → take (length list - middle) (drop middle list) ≡ drop middle list
rest_from list middle =
    ap (λ n. take n (drop middle list)) (sym (length-drop middle list)) ∙ take-length (drop middle list)

-- the unions of two lists, one after the other
module _ {s0 s1 s2 : Held} (fs gs : List (List (List ℕ))) {first second : ℕ}
    (gave1 : Gave (IsLeastOfAll fs) s0 s1 first) (gave2 : Gave (IsLeastOfAll gs) s1 s2 second) where
  pub went_both : Went s0 s2
  went_both = Went-then gave1.went gave2.went

  of_first : IsLeastOfAll fs (family_in s2 first)
  of_first = subst (IsLeastOfAll fs) (sym (still gave1.went.sound gave2.went first gave1.has)) gave1.is

  pub both_united : {E : Type 0} (s3 : Held) (result : Result ℕ E)
      → MatchResult result (Gave (IsLeastUnion (family_in s2 first) (family_in s2 second)) s2 s3) (λ _. RanOut s2 s3)
      → MatchResult result (Gave (IsLeastOfAll (fs ++ gs)) s0 s3) (λ _. RanOut s0 s3)
  both_united s3 result m =
      ended s3 went_both (IsLeastUnion (family_in s2 first) (family_in s2 second)) (IsLeastOfAll (fs ++ gs))
      result (λ f is. least_of_both fs gs (family_in s2 first) (family_in s2 second) f of_first gave2.is is) m

module _ {s0 s1 s2 : Held} (list : List ℕ) (middle : ℕ) (sound : IsSound s0) (has : All (Has s0) list)
    {first second : ℕ} (gave1 : Gave (IsLeastOfAll (families s0 (take middle list))) s0 s1 first)
    (gave2 : Gave (IsLeastOfAll (families s1 (drop middle list))) s1 s2 second) where
  of_rest : Gave (IsLeastOfAll (families s0 (drop middle list))) s1 s2 second
  of_rest =
      subst (λ gs. Gave (IsLeastOfAll gs) s1 s2 second)
      (families_stay (drop middle list) sound gave1.went (All-drop (Has s0) middle list has)) gave2

  pub halves_united : {E : Type 0} (s3 : Held) (result : Result ℕ E)
      → MatchResult result (Gave (IsLeastUnion (family_in s2 first) (family_in s2 second)) s2 s3) (λ _. RanOut s2 s3)
      → MatchResult result (Gave (IsLeastOfAll (families s0 list)) s0 s3) (λ _. RanOut s0 s3)
  halves_united s3 result m =
      subst (λ fs. MatchResult result (Gave (IsLeastOfAll fs) s0 s3) (λ _. RanOut s0 s3))
      (sym (families_parts s0 middle list))
      (both_united (families s0 (take middle list)) (families s0 (drop middle list)) gave1 of_rest s3 result m)

-- ---- a product, one family more

module _ {s0 s1 : Held} (list : List ℕ) (place made : ℕ) {r : ℕ} (sound : IsSound s0) (went : Went s0 s1)
    (has : All (Has s0) list) (has_made : Has s1 made) (inside : place < length list) (member : r ≡ get_or list place 0)
    (of_fs : IsLeastProductOfAll (take place (families s0 list)) (family_in s1 made)) where
  has_member : Has s0 r
  has_member = subst (Has s0) (sym member) (has place 0 inside)

  pub still_member : Has s1 r
  still_member = still_has sound went r has_member

  pub multiplied_more : {s2 : Held} {more : ℕ} → Gave (IsLeastProduct (family_in s1 made) (family_in s1 r)) s1 s2 more
      → Went s0 s2 × IsLeastProductOfAll (take (place + 1) (families s0 list)) (family_in s2 more)
  multiplied_more {s2} {more} gave = (
    Went-then went gave.went,
    product_goes_on (families s0 list) place
        (let e = many_families s0 list in omega arith) (member_family s0 list place inside member) of_fs
        (subst (λ g. IsLeastProduct (family_in s1 made) g (family_in s2 more)) (still sound went r has_member) gave.is),
  )
