-- Answers of operations: taken as less, and one after another.
use Rattle.std.proofs.Common.{MatchResult, Result, ℕ, List}
use Rattle.std.proofs.lemmas.Result.{MatchResult-weaker}
use Rattle.zdd_families.specs.Map.{family}
use Rattle.zdd_shared_table.specs.Seats.{Seated, map_of}
use Rattle.zdd_product.specs.Seats.{WentOn, Gave, WasFull}
use Rattle.zdd_product.proofs.After.{WentOn-as, WasFull-as, Gave-then, WasFull-then}

-- what was given and what is due imply more
pub answer_as : {E : Type 0} (is due is' due' : List (List ℕ) → Type 0) → ((h : List (List ℕ)) → is h → is' h)
    → ((h : List (List ℕ)) → due h → due' h) → (before after : Seated) (result : Result ℕ E)
    → MatchResult result (Gave is due before after) (λ _. WasFull due before after)
    → MatchResult result (Gave is' due' before after) (λ _. WasFull due' before after)
answer_as is due is' due' to_is to_due before after result m =
    MatchResult-weaker result m
    (λ r gave. record {
      on = WentOn-as due due' to_due before after gave.on;
      known =
          (gave.known.0, to_is (family (map_of after) r) gave.known.1);
    })
    (λ _ full. WasFull-as due due' to_due before after full)

-- after what was done before
pub answer_then : {E : Type 0} (is : List (List ℕ) → Type 0) {due : List (List ℕ) → Type 0} {a b : Seated} (c : Seated)
    → WentOn due a b
    → (result : Result ℕ E) → MatchResult result (Gave is due b c) (λ _. WasFull due b c)
    → MatchResult result (Gave is due a c) (λ _. WasFull due a c)
answer_then is c on result m =
    MatchResult-weaker result m (λ r gave. Gave-then c on gave) (λ _ full. WasFull-then c on full)
