-- The places of the entries with one pass number.
use Rattle.std.proofs.Common.{◌≡◌, ℕ, suc, ◌==◌, Bool, true, false, List, [], ◌∷◌, ◌++◌, map, length, refl, ◌∙◌, ap}
use Rattle.std.proofs.Common.{arith, eqb-true, append-nil, length-append}
use Rattle.std.specs.Prelude.{if◌then◌else◌}
use Rattle.outage_board.specs.declared.entry.Entry.{Entry}
use Rattle.live_board.specs.declared.entry.LiveEntry.{LiveEntry}
use Rattle.live_board.specs.{Histories.made_by, Histories.AreNumbered, Views.numbers_from}
use Rattle.live_board.proofs.HistoryLemmas.{made_by-push}

abbrev places : List Entry → List ℕ
places entries = map (λ (entry : Entry). entry.place) entries

-- behind some entries they go on from how many of these have the number
pub places_from : (before history : List LiveEntry) (number : ℕ) → AreNumbered before history
    → map (λ (entry : Entry). entry.place) (made_by number history)
    ≡ numbers_from (length (made_by number before)) (length (made_by number history))
places_from before [] number numbered = refl
places_from before (made ∷ history) number numbered =
    by_same (made.pass == number) refl (places_from (before ++ made ∷ []) history number numbered.1)
  where
    start : (same : Bool) → (made.pass == number) ≡ same
        → made_by number (before ++ made ∷ []) ≡ made_by number before ++ (if same then made.entry ∷ [] else [])
    start same is =
        made_by-push number before made ∙ ap (λ b. made_by number before ++ (if b then made.entry ∷ [] else [])) is

    by_same : (same : Bool) → (made.pass == number) ≡ same
        → places (made_by number history)
        ≡ numbers_from (length (made_by number (before ++ made ∷ []))) (length (made_by number history))
        → places (if same then made.entry ∷ made_by number history else made_by number history)
        ≡ numbers_from (length (made_by number before))
        (length (if same then made.entry ∷ made_by number history else made_by number history))
    by_same true is later =
        let own : made.pass ≡ number = eqb-true made.pass number is in
        let at : made.entry.place ≡ length (made_by number before) =
        numbered.0 ∙ ap (λ n. length (made_by n before)) own in
        let long = ap length (start true is) ∙ length-append (made_by number before) (made.entry ∷ []) in
        let next : length (made_by number (before ++ made ∷ [])) ≡ suc (length (made_by number before)) = omega arith in
        let later' = later ∙ ap (λ n. numbers_from n (length (made_by number history))) next in
        λ i. at i ∷ later' i
    by_same false is later =
        later
        ∙ ap (λ es. numbers_from (length es) (length (made_by number history)))
        (start false is ∙ append-nil (made_by number before))
