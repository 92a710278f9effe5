-- A live history with one entry more, and its beginnings.
use Rattle.std.proofs.Common.{◌≡◌, ◌≢◌, ℕ, ◌≤◌, ◌==◌, Bool, true, false, List, [], ◌∷◌, ◌++◌, length, refl, sym}
use Rattle.std.proofs.Common.{◌∙◌, ap, subst, arith, append_assoc, append-nil, length-append}
use Rattle.std.specs.Prelude.{if◌then◌else◌}
use Rattle.std.proofs.{lemmas.Bool.ne_eqb, lemmas.List.map-append}
use Rattle.margin_policy.specs.Standing.{StandingView, reply_of}
use Rattle.outage_board.specs.{Histories.IsLegal, Histories.after_entry}
use Rattle.outage_board.specs.{Histories.standing_after}
use Rattle.outage_board.proofs.HistoryLemmas.{standing_after-push, IsLegal-push, IsLegal-parts}
use Rattle.live_board.specs.declared.entry.LiveEntry.{LiveEntry}
use Rattle.live_board.specs.declared.entry.Call.{Call}
use Rattle.live_board.specs.declared.entry.Answer.{Answer}
use Rattle.live_board.specs.declared.entry.Answer.TheVariants.{Answered, HistoryFull}
use Rattle.live_board.specs.Histories.{entries_in, made_by, AreNumbered, IsLiveHistory, standing_left, BeginsWith}
use Rattle.live_board.specs.Boards.{LiveView, IsLive, replied, IsAnswer, after_answer}

-- ---- the entries of one number

pub made_by-push : (number : ℕ) (history : List LiveEntry) (made : LiveEntry)
    → made_by number (history ++ made ∷ []) ≡ made_by number history
    ++ (if made.pass == number then made.entry ∷ [] else [])
made_by-push number [] made = refl
made_by-push number (first ∷ history) made = by_same (first.pass == number) (made_by-push number history made)
  where
    by_same : (same : Bool) → made_by number (history ++ made ∷ [])
        ≡ made_by number history ++ (if made.pass == number then made.entry ∷ [] else [])
        → (if same then first.entry ∷ made_by number (history ++ made ∷ []) else made_by number (history ++ made ∷ []))
        ≡ (if same then first.entry ∷ made_by number history else made_by number history)
        ++ (if made.pass == number then made.entry ∷ [] else [])
    by_same true later = ap (λ es. first.entry ∷ es) later
    by_same false later = later

pub made_by-other : {number : ℕ} (history : List LiveEntry) (made : LiveEntry) → number ≢ made.pass
    → made_by number (history ++ made ∷ []) ≡ made_by number history
made_by-other {number} history made apart =
    made_by-push number history made
    ∙ ap (λ b. made_by number history ++ (if b then made.entry ∷ [] else []))
    (ne_eqb made.pass number (λ e. apart (sym e)))
    ∙ append-nil (made_by number history)

pub made_by-few : (number : ℕ) (history : List LiveEntry) → length (made_by number history) ≤ length history
made_by-few number [] = omega arith
made_by-few number (first ∷ history) = by_same (first.pass == number) (made_by-few number history)
  where
    by_same : (same : Bool) → length (made_by number history) ≤ length history
        → length (if same then first.entry ∷ made_by number history else made_by number history)
        ≤ length (first ∷ history)
    by_same true later = omega arith
    by_same false later = omega arith

-- ---- one entry more

AreNumbered-push : (before history : List LiveEntry) (made : LiveEntry) → AreNumbered before history
    → made.entry.place ≡ length (made_by made.pass (before ++ history)) → AreNumbered before (history ++ made ∷ [])
AreNumbered-push before [] made numbered at = (
  subst (λ h. made.entry.place ≡ length (made_by made.pass h)) (append-nil before) at,
  tt,
)
AreNumbered-push before (first ∷ history) made numbered at = (
  numbered.0,
  AreNumbered-push (before ++ first ∷ []) history made numbered.1
      (subst (λ h. made.entry.place ≡ length (made_by made.pass h))
      (sym (append_assoc before (first ∷ []) history)) at),
)

entries_in-push : (history : List LiveEntry) (made : LiveEntry)
    → entries_in (history ++ made ∷ []) ≡ entries_in history ++ made.entry ∷ []
entries_in-push history made = map-append (λ (m : LiveEntry). m.entry) history (made ∷ [])

pub standing_left-push : (opening : StandingView) (history : List LiveEntry) (made : LiveEntry)
    → standing_left opening (history ++ made ∷ []) ≡ after_entry (standing_left opening history) made.entry
standing_left-push opening history made =
    ap (standing_after opening) (entries_in-push history made)
    ∙ standing_after-push opening (entries_in history) made.entry

pub IsLiveHistory-push : {opening : StandingView} {history : List LiveEntry} (made : LiveEntry)
    → IsLiveHistory opening history
    → made.entry.reply ≡ reply_of (standing_left opening history) made.entry.crew made.entry.request
    → made.entry.place ≡ length (made_by made.pass history) → IsLiveHistory opening (history ++ made ∷ [])
IsLiveHistory-push {opening} {history} made live decided at = record {
  legal =
      subst (IsLegal opening) (sym (entries_in-push history made))
      (IsLegal-push opening (entries_in history) made.entry live.legal decided);
  places = AreNumbered-push [] history made live.places at;
}

-- a state is live after the right answer to a call
pub answered_live : {state : LiveView} (call : Call) (answer : Answer) → IsLive state
    → call.place ≡ length (made_by call.pass state.history) → IsAnswer state call answer
    → IsLive (after_answer state call answer)
answered_live {state} call (Answered reply) live at right = record {
  live = IsLiveHistory-push (replied call reply) live.live right.0 at;
  few =
      let e = length-append state.history (replied call reply ∷ []) in
      let room = right.1 in
      omega arith;
  limit = live.limit;
}
answered_live call HistoryFull live at right = live

-- ---- beginnings

pub begins_itself : (history : List LiveEntry) → BeginsWith history history
begins_itself history = record { rest = []; is = sym (append-nil history) }

pub begins_nothing : (history : List LiveEntry) → BeginsWith history []
begins_nothing history = record { rest = history; is = refl }

pub begins_more : {history front : List LiveEntry} (more : List LiveEntry) → BeginsWith history front
    → BeginsWith (history ++ more) front
begins_more {history} {front} more begins = record {
  rest = begins.rest ++ more;
  is = ap (λ h. h ++ more) begins.is ∙ append_assoc front begins.rest more;
}

AreNumbered-front : (before history more : List LiveEntry) → AreNumbered before (history ++ more)
    → AreNumbered before history
AreNumbered-front before [] more numbered = tt
AreNumbered-front before (first ∷ history) more numbered =
    (numbered.0, AreNumbered-front (before ++ first ∷ []) history more numbered.1)

pub IsLiveHistory-front : (opening : StandingView) (history more : List LiveEntry)
    → IsLiveHistory opening (history ++ more) → IsLiveHistory opening history
IsLiveHistory-front opening history more live = record {
  legal =
      (IsLegal-parts opening (entries_in history) (entries_in more)
      (subst (IsLegal opening) (map-append (λ (m : LiveEntry). m.entry) history more) live.legal)).0;
  places = AreNumbered-front [] history more live.places;
}
