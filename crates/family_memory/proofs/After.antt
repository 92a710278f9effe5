-- Operations one after another on one memory: for the proofs of this crate and of those above.
use Rattle.std.proofs.Common.{MatchResult, IfOk, IfErr, Result, Ok, Err, ◌≡◌, ℕ, ◌<◌, List, refl, sym, ◌∙◌, subst, inl}
use Rattle.std.proofs.Common.{inr, arith, ◌≤◌, ◌⊎◌, ◌++◌, [], ◌∷◌, length, length-append, ap}
use Rattle.event_counts.specs.Count.{Rose}
use Rattle.std.proofs.{lemmas.Bool.cases_lt, lemmas.Result.MatchResult-weaker}
use Rattle.zdd_families.specs.Family.{IsFamily, IsAbove}
use Rattle.zdd_families.specs.Map.{Knows, Grown, level_in}
use Rattle.zdd_families.proofs.MapLemmas.{level_in-grown}
use Rattle.zdd_families.proofs.Canonical.{IsFamily-family, family-above, family-grown, level-above}
use Rattle.event_counts.specs.Count.{next_count}
use Rattle.event_counts.proofs.CountLemmas.{Rose-later, Rose-next, next_count-steady}
use Rattle.family_memory.specs.Memory.{Held, Has, IsSound, IsUsedUp, Went, Gave, RanOut, family_in, map_of}

pub knows : {held : Held} (r : ℕ) → IsSound held → Has held r → Knows (map_of held) r
knows r sound has =
    elim (cases_lt r 2) [
      | inl small ↦ inl small
      | inr inner ↦ inr (sound.filled r inner has)
    ]

pub is_family : {held : Held} (r : ℕ) → IsSound held → Has held r → IsFamily (family_in held r)
is_family {held} r sound has = IsFamily-family (map_of held) r sound.closed (knows r sound has)

pub above : {held : Held} (x r : ℕ) → IsSound held → Has held r → x < level_in (map_of held) r
    → IsAbove x (family_in held r)
above {held} x r sound has h = family-above (map_of held) x r sound.closed (knows r sound has) h

pub level_above : {held : Held} (x r : ℕ) → IsSound held → Has held r → x < 4096 → IsAbove x (family_in held r)
    → x < level_in (map_of held) r
level_above {held} x r sound has h above = level-above (map_of held) x r sound.closed (knows r sound has) h above

-- ---- what stood for a family still does

pub grown_then : (a b c : ℕ → ℕ) → Grown a b → Grown b c → Grown a c
grown_then a b c first second r has = second r (λ none. has (sym (first r has) ∙ none)) ∙ first r has

module _ {before after : Held} (sound : IsSound before) (went : Went before after) where
  pub still_has : (r : ℕ) → Has before r → Has after r
  still_has r has = let more = went.longer in omega arith

  pub still : (r : ℕ) → Has before r → family_in after r ≡ family_in before r
  still r has =
      family-grown (map_of before) (map_of after) r sound.closed went.sound.closed went.keeps (knows r sound has)

  pub still_level : (r : ℕ) → Has before r → level_in (map_of after) r ≡ level_in (map_of before) r
  still_level r has = level_in-grown (map_of before) (map_of after) r went.keeps (knows r sound has)

pub Went-nowhere : {held : Held} → IsSound held → Went held held
Went-nowhere sound = record {
  longer = omega arith;
  keeps = λ r has. refl;
  room = refl;
  steady = omega arith;
  sound = sound;
}

pub Went-then : {a b c : Held} → Went a b → Went b c → Went a c
Went-then {a} {b} {c} first second = record {
  longer = let h = first.longer in let k = second.longer in omega arith;
  keeps = grown_then (map_of a) (map_of b) (map_of c) first.keeps second.keeps;
  room = second.room ∙ first.room;
  steady = let h = first.steady in let k = second.steady in omega arith;
  sound = second.sound;
}

-- a reference that was there stands for such a family
pub Gave-there : {is : List (List ℕ) → Type 0} {held : Held} {r : ℕ} → IsSound held → Has held r → is (family_in held r)
    → Gave is held held r
Gave-there {is} sound has fact = record { went = Went-nowhere sound; has = has; is = fact }

-- what a last step gives is the answer, where its family is such a one
module _ {a b : Held} (c : Held) (first : Went a b) where
  pub RanOut-then : RanOut b c → RanOut a c
  RanOut-then out = record {
    went = Went-then first out.went;
    used_up = out.used_up;
    rose = Rose-later a.refused b.refused first.steady out.rose;
  }

  pub Gave-then : {is is' : List (List ℕ) → Type 0} {r : ℕ} → ((f : List (List ℕ)) → is f → is' f) → Gave is b c r
      → Gave is' a c r
  Gave-then {is} {r} to gave =
      record { went = Went-then first gave.went; has = gave.has; is = to (family_in c r) gave.is }

  pub ended : {E : Type 0} (is is' : List (List ℕ) → Type 0) (result : Result ℕ E)
      → ((f : List (List ℕ)) → is f → is' f) → MatchResult result (Gave is b c) (λ _. RanOut b c)
      → MatchResult result (Gave is' a c) (λ _. RanOut a c)
  ended is is' result to m = MatchResult-weaker result m (λ r gave. Gave-then to gave) (λ _ out. RanOut-then out)

-- ---- facts of two families that stood before

-- a fact of two families, at families that are equal to them
pub at_both : (R : List (List ℕ) → List (List ℕ) → Type 0) {f f' g g' : List (List ℕ)} → f ≡ f' → g ≡ g' → R f g
    → R f' g'
at_both R {f'} {g} same same' fact = subst (λ q. R f' q) same' (subst (λ q. R q g) same fact)

module _ {before after : Held} (sound : IsSound before) (went : Went before after) where
  pub at_start : (R : List (List ℕ) → List (List ℕ) → Type 0) (r q : ℕ) → Has before r → Has before q
      → R (family_in after r) (family_in after q) → R (family_in before r) (family_in before q)
  at_start R r q has has' = at_both R (still sound went r has) (still sound went q has')

  pub of_start : (R : List (List ℕ) → List (List ℕ) → Type 0) (r q : ℕ) → Has before r → Has before q
      → R (family_in before r) (family_in before q) → R (family_in after r) (family_in after q)
  of_start R r q has has' = at_both R (sym (still sound went r has)) (sym (still sound went q has'))

-- the clause of both answers, by that of each
pub answers_of : {E : Type 0} (Is : List (List ℕ) → Type 0) (before after : Held) (result : Result ℕ E)
    → IfOk result (Gave Is before after) → IfErr result (λ _. RanOut before after)
    → MatchResult result (Gave Is before after) (λ _. RanOut before after)
answers_of Is before after (Ok r) gave out = gave
answers_of Is before after (Err e) gave out = out

-- ---- a node that was asked for

module _ {before after : Held} (sound : IsSound before) (keeps : Grown (map_of before) (map_of after))
    (room : after.room ≡ before.room) (sound' : IsSound after) where
  -- it was added, or was there
  pub node_went : length before.words ≤ length after.words → after.refused ≡ before.refused → Went before after
  node_went longer same = record {
    longer = longer;
    keeps = keeps;
    room = room;
    steady = omega (arith, same);
    sound = sound';
  }

  -- it was refused
  pub node_refused : IsUsedUp before → after.words ≡ before.words → after.refused ≡ next_count before.refused
      → RanOut before after
  node_refused used_up words more = record {
    went = record {
      longer = let e = ap length words in omega (arith, e);
      keeps = keeps;
      room = room;
      steady =
          subst (λ n. before.refused ≤ n) (sym more) (next_count-steady before.refused sound.counted);
      sound = sound';
    };
    used_up = let e = ap length words in omega (arith, e, room, used_up);
    rose = subst (Rose before.refused) (sym more) (Rose-next before.refused);
  }

  -- both answers
  pub answers_of_node : {E : Type 0} (due : List (List ℕ)) (word : ℕ) (result : Result ℕ E)
      → IfOk result (λ r. Has after r)
      → IfOk result (λ r. family_in after r ≡ due) → IfErr result (λ _. IsUsedUp before)
      → MatchResult result (λ _. (after.words ≡ before.words) ⊎ (after.words ≡ before.words ++ word ∷ []))
      (λ _. after.words ≡ before.words)
      → MatchResult result (λ _. after.refused ≡ before.refused) (λ _. after.refused ≡ next_count before.refused)
      → MatchResult result (Gave (λ f. f ≡ due) before after) (λ _. RanOut before after)
  answers_of_node due word (Ok r) has is used_up words same = record {
    went = node_went (longer_by words) same;
    has = has;
    is = is;
  } where
    longer_by : (after.words ≡ before.words) ⊎ (after.words ≡ before.words ++ word ∷ [])
        → length before.words ≤ length after.words
    longer_by (inl as_before) = let e = ap length as_before in omega (arith, e)
    longer_by (inr more) = let e = ap length more ∙ length-append before.words (word ∷ []) in omega (arith, e)
  answers_of_node due word (Err e) has is used_up words more = node_refused used_up words more
