-- No log has two verdicts.
use Rattle.std.specs.Prelude.{◌≡◌, ◌↔◌, ℕ, List, [], ◌++◌, length}
use Rattle.std.proofs.Common.{refl, ap, subst, arith, inl, inr}
use Rattle.std.proofs.{lemmas.Bool.cases_order, lemmas.List.length-map}
use Rattle.fault_definitions.specs.Tree.{FaultTree}
use Rattle.crew_script.specs.{Dockets.IsDockets, Dockets.request_count, declared.dockets.Crew.Crew}
use Rattle.outage_board.specs.{Boards.Deck, Boards.deck_of, Requests.requests_of}
use Rattle.board_report.specs.LogText.{entry_lines}
use Rattle.board_audit.specs.declared.verdict.Verdict.{Verdict}
use Rattle.board_audit.specs.declared.verdict.Verdict.TheVariants.{Yes, Header, Entry, Rest}
use Rattle.board_audit.specs.Verdicts.{AgreesUpTo, HasHead, IsVerdict, IsWholeLog, StopsAt}
use Rattle.board_audit.proofs.Agreeing.{agrees_before, same_rest}
use Rattle.board_audit.proofs.WholeLogs.{log_when_agreed, agreed_when_log}

module _ {deck : Deck} {log : List ℕ} where
  headed : {number : ℕ} → AgreesUpTo deck log number → HasHead deck log
  headed up = (entry_lines deck.crews 1 up.1.history ++ up.0, up.1.text)

  -- a log that agrees up to all requests stops nowhere
  stops_nowhere : {P : Type 0} {number : ℕ} → StopsAt deck log number
      → AgreesUpTo deck log (request_count deck.crews) → P
  stops_nowhere stops up = absurd (stops.stops (agrees_before up stops.within))

  stops_once : {number other : ℕ} → StopsAt deck log number → StopsAt deck log other → number ≡ other
  stops_once {number} {other} one two = elim (cases_order number other) [
    | inl same ↦ same
    | inr apart ↦ elim apart [
      | inl less ↦ absurd (one.stops (agrees_before two.agrees (let n = two.next in omega (arith, less))))
      | inr more ↦ absurd (two.stops (agrees_before one.agrees (let n = one.next in omega (arith, more))))
    ]
  ]

module _ (deck : Deck) (kept : IsDockets deck.crews) (all : length deck.dockets ≡ length deck.crews)
    (log : List ℕ) where
  pub one_verdict : (verdict other : Verdict) → IsVerdict deck log verdict → IsVerdict deck log other → verdict ≡ other
  one_verdict Header Header none also = refl
  one_verdict Header (Entry number) none stops = absurd (none (headed stops.agrees))
  one_verdict Header Rest none on = absurd (none (headed (on.rest, on.agrees)))
  one_verdict Header Yes none agrees = absurd (none (headed ([], agrees)))
  one_verdict (Entry number) Header stops none = absurd (none (headed stops.agrees))
  one_verdict (Entry number) (Entry other) stops also = ap (λ n. Entry n) (stops_once stops also)
  one_verdict (Entry number) Rest stops on = stops_nowhere stops (on.rest, on.agrees)
  one_verdict (Entry number) Yes stops agrees = stops_nowhere stops ([], agrees)
  one_verdict Rest Header on none = absurd (none (headed (on.rest, on.agrees)))
  one_verdict Rest (Entry number) on stops = stops_nowhere stops (on.rest, on.agrees)
  one_verdict Rest Rest on also = refl
  one_verdict Rest Yes on agrees = absurd (on.more (same_rest deck kept all on.agrees agrees))
  one_verdict Yes Header agrees none = absurd (none (headed ([], agrees)))
  one_verdict Yes (Entry number) agrees stops = stops_nowhere stops ([], agrees)
  one_verdict Yes Rest agrees on = absurd (on.more (same_rest deck kept all on.agrees agrees))
  one_verdict Yes Yes agrees also = refl

-- the verdict is yes exactly for the log of a legal and whole history
pub yes_exactly : (tree : FaultTree) (cuts : List (List ℕ)) (crews : List Crew) (margin : ℕ) (log : List ℕ)
    (kept : IsDockets crews) {verdict : Verdict} → IsVerdict (deck_of tree cuts crews margin) log verdict
    → (verdict ≡ Yes) ↔ IsWholeLog (deck_of tree cuts crews margin) log
yes_exactly tree cuts crews margin log kept {verdict} is = (
  λ e. log_when_agreed tree cuts crews margin kept log
      (subst (IsVerdict (deck_of tree cuts crews margin) log) e is),
  λ whole. one_verdict (deck_of tree cuts crews margin) kept (length-map crews (requests_of tree)) log verdict Yes is
      (agreed_when_log tree cuts crews margin kept log whole),
)
