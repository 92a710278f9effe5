-- The sums of a history.
use Rattle.std.specs.Prelude.{ℕ, ◌≤◌, Bool, List, length, take}
use Rattle.std.proofs.{Common.arith, lemmas.List.length-take-le, lemmas.List.Sums.count_by-le-length}
use Rattle.std.proofs.{lemmas.List.Sums.length-filter}
use Rattle.margin_policy.specs.declared.request.Reply.{Reply}
use Rattle.outage_board.specs.declared.entry.Entry.{Entry}
use Rattle.board_report.specs.SummaryText.{reply_count}

-- no more than the entries
pub few_replies : (is_kind : Reply → Bool) (history : List Entry) (i : ℕ) → i ≤ length history
    → reply_count is_kind (take i history) ≤ i
few_replies is_kind history i within =
    let test = λ (e : Entry). is_kind e.reply in
    omega (
      arith,
      length-filter test (take i history),
      count_by-le-length test (take i history),
      length-take-le i history within,
    )
