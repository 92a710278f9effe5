-- True entries stay true where the map grows.
use Rattle.std.proofs.Common.{◌≡◌, ℕ, List, [], ◌∷◌, inl, arith, sym, subst, All}
use Rattle.std.proofs.lemmas.List.Elements.{All-cons, All-weaker}
use Rattle.zdd_families.specs.Map.{Knows, IsClosed, Grown, family}
use Rattle.zdd_families.proofs.{MapLemmas.family-empty, MapLemmas.Knows-grown, Canonical.family-grown}
use Rattle.zdd_families.proofs.{WithoutLemmas.without-none}
use Rattle.zdd_families.specs.Without.{IsWithout}
use Rattle.kept_answers.specs.{Kept.AreKept, Kept.first_entry, declared.answers.Entry.Entry}
use Rattle.kept_answers.specs.{declared.answers.Operation.Operation}
use Rattle.kept_answers.proofs.Keeping.{all_kept}
use Rattle.zdd_product.specs.{Told.IsTold, Told.IsResult, Seats.Gave}
use Rattle.zdd_shared_table.specs.Seats.{Seated, IsSoundSeat, map_of}
use Rattle.zdd_product.proofs.After.{stays, at_both}

told_grown : (known known' : ℕ → ℕ) → IsClosed known → IsClosed known' → Grown known known' → (entry : Entry)
    → IsTold known entry → IsTold known' entry
told_grown known known' closed closed' grown entry told =
    let same : (r : ℕ) → Knows known r → family known r ≡ family known' r =
    λ r knows. sym (family-grown known known' r closed closed' grown knows) in
    record {
      first = Knows-grown known known' entry.question.first grown told.first;
      second = Knows-grown known known' entry.question.second grown told.second;
      answer = Knows-grown known known' entry.answer grown told.answer;
      is =
          subst (λ h. IsResult entry.question.operation (family known' entry.question.first)
          (family known' entry.question.second) h) (same entry.answer told.answer)
          (subst (λ g. IsResult entry.question.operation (family known' entry.question.first) g
          (family known entry.answer)) (same entry.question.second told.second)
          (subst (λ f. IsResult entry.question.operation f (family known entry.question.second)
          (family known entry.answer)) (same entry.question.first told.first) told.is));
    }

pub all_told : (known known' : ℕ → ℕ) (entries : List Entry) → IsClosed known → IsClosed known' → Grown known known'
    → All (IsTold known) entries → All (IsTold known') entries
all_told known known' entries closed closed' grown all =
    All-weaker (IsTold known) (IsTold known') (told_grown known known' closed closed' grown) entries all

pub told_first : (known : ℕ → ℕ) → IsTold known first_entry
told_first known =
    let none : family known 0 ≡ [] = family-empty known in
    record {
      first = inl (omega arith);
      second = inl (omega arith);
      answer = inl (omega arith);
      is = subst (λ f. IsWithout f f f) (sym none) (without-none []);
    }

-- the entries of a table that is new, or was told one more
pub told_of_none : (known : ℕ → ℕ) (entries : List Entry) → AreKept [] entries → All (IsTold known) entries
told_of_none known entries kept =
    all_kept (IsTold known) [] entries (told_first known) (λ k d past. absurd (omega arith)) kept

pub told_more : (known : ℕ → ℕ) (entry : Entry) (before after : List Entry) → IsTold known entry
    → All (IsTold known) before → AreKept (entry ∷ before) after → All (IsTold known) after
told_more known entry before after told all kept =
    all_kept (IsTold known) (entry ∷ before) after (told_first known) (All-cons (IsTold known) entry before told all)
    kept

-- what an operation on two references gave is true as an entry
pub told_made : (operation : Operation) {due : List (List ℕ) → Type 0} {before after : Seated} (a b : ℕ) {r : ℕ}
    → IsSoundSeat before → Knows (map_of before) a → Knows (map_of before) b
    → Gave (IsResult operation (family (map_of before) a) (family (map_of before) b)) due before after r
    → IsTold (map_of after) (record { question = record { operation = operation; first = a; second = b }; answer = r })
told_made operation {before} {after} a b {r} sound knows_a knows_b gave =
    let went = gave.on.went in
    let first = stays before after a sound went.sound went.keeps knows_a in
    let second = stays before after b sound went.sound went.keeps knows_b in
    record {
      first = first.0;
      second = second.0;
      answer = gave.known.0;
      is =
          at_both (λ f g. IsResult operation f g (family (map_of after) r)) (sym first.1) (sym second.1) gave.known.1;
    }
