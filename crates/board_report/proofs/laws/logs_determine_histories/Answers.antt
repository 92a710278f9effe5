use Rattle.board_report.proofs.{CrewNames.each_named, LogLemmas.same_log}
use Rattle.board_report.proofs.laws.logs_determine_histories.Goals as goal

pub returns : goal.returns
returns c = record {
  same = λ deck history other kept all legal whole also too e.
      same_log deck.crews (each_named deck.crews kept.named.names) kept.named.differ deck.opening all legal whole also
      too e;
}
