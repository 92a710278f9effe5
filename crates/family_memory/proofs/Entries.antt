-- True entries stay true where nodes are added.
use Rattle.std.proofs.Common.{ℕ, ◌≡◌, ◌≤◌, List, [], ◌∷◌, length, sym, subst, All, arith}
use Rattle.std.proofs.lemmas.List.Elements.{All-cons, All-weaker}
use Rattle.zdd_families.proofs.{MapLemmas.family-empty, WithoutLemmas.without-none}
use Rattle.zdd_families.specs.Without.{IsWithout}
use Rattle.kept_answers.specs.{Kept.AreKept, Kept.first_entry, declared.answers.Entry.Entry}
use Rattle.kept_answers.proofs.Keeping.{all_kept}
use Rattle.family_memory.specs.Memory.{Held, Has, IsSound, Went, family_in, map_of}
use Rattle.family_memory.proofs.After.{still, still_has}
use Rattle.family_memory.specs.Answers.{IsTold, IsAnswer}

told_after : {before after : Held} → IsSound before → Went before after → (entry : Entry) → IsTold before entry
    → IsTold after entry
told_after {before} {after} sound went entry told =
    let same : (r : ℕ) → Has before r → family_in before r ≡ family_in after r =
    λ r has. sym (still sound went r has) in
    record {
      first = still_has sound went entry.question.first told.first;
      second = still_has sound went entry.question.second told.second;
      answer = still_has sound went entry.answer told.answer;
      is =
          subst (λ h. IsAnswer entry.question.operation (family_in after entry.question.first)
          (family_in after entry.question.second) h) (same entry.answer told.answer)
          (subst (λ g. IsAnswer entry.question.operation (family_in after entry.question.first) g
          (family_in before entry.answer)) (same entry.question.second told.second)
          (subst (λ f. IsAnswer entry.question.operation f (family_in before entry.question.second)
          (family_in before entry.answer)) (same entry.question.first told.first) told.is));
    }

pub all_told : {before after : Held} (entries : List Entry) → IsSound before → Went before after
    → All (IsTold before) entries → All (IsTold after) entries
all_told {before} {after} entries sound went all =
    All-weaker (IsTold before) (IsTold after) (told_after sound went) entries all

pub told_first : {held : Held} → IsSound held → IsTold held first_entry
told_first {held} sound =
    let few : 2 ≤ length held.words = sound.terminals in
    let none : family_in held 0 ≡ [] = family-empty (map_of held) in
    record {
      first = omega arith;
      second = omega arith;
      answer = omega arith;
      is = subst (λ f. IsWithout f f f) (sym none) (without-none []);
    }

-- the entries of a table that was new, cleared or told one more
pub told_of_none : {held : Held} (entries : List Entry) → IsSound held → AreKept [] entries → All (IsTold held) entries
told_of_none {held} entries sound kept =
    all_kept (IsTold held) [] entries (told_first sound) (λ k d past. absurd (omega arith)) kept

pub told_more : {held : Held} (entry : Entry) (before after : List Entry) → IsSound held → IsTold held entry
    → All (IsTold held) before → AreKept (entry ∷ before) after → All (IsTold held) after
told_more {held} entry before after sound told all kept =
    all_kept (IsTold held) (entry ∷ before) after (told_first sound) (All-cons (IsTold held) entry before told all) kept
