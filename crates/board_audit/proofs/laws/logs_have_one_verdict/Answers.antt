use Rattle.std.proofs.lemmas.List.{length-map}
use Rattle.outage_board.specs.{Boards.deck_of, Requests.requests_of}
use Rattle.board_audit.proofs.{OneVerdict.one_verdict, SomeVerdict.some_verdict}
use Rattle.board_audit.proofs.laws.logs_have_one_verdict.Goals as goal

pub returns : goal.returns
returns c = record {
  some = some_verdict;
  one = λ tree cuts crews margin log verdict other kept is also.
      one_verdict (deck_of tree cuts crews margin) kept (length-map crews (requests_of tree)) log verdict other is also;
}
