use Rattle.outage_engine.proofs.Clauses.{answers_deck, answers_length, answers_words, fails_to_read, front_of}
use Rattle.outage_engine.proofs.Clauses.{of_command, prints_check, prints_cuts, prints_diagram, prints_help}
use Rattle.outage_engine.proofs.Clauses.{prints_made, prints_summary}
use Rattle.outage_engine.proofs.Clauses.{prints_tree, refuses_deck, refuses_length, refuses_orders, refuses_weight}
use Rattle.outage_engine.proofs.Clauses.{refuses_words, unwritten}
use Rattle.outage_engine.proofs.SeatLemmas.{finds_full, leaves_diagram}
use Rattle.outage_engine.proofs.running.run_cuts.Goals as goal

pub returns : goal.returns
returns g c = record {
  command = of_command c.answer_and_tell.ensures.run.runs;
  cuts = prints_cuts c.answer_and_tell.ensures.run.runs;
  check = prints_check c.answer_and_tell.ensures.run.runs;
  print = prints_tree c.answer_and_tell.ensures.run.runs;
  diagram = prints_diagram c.answer_and_tell.ensures.run.runs;
  make = prints_made c.answer_and_tell.ensures.run.runs;
  summary = prints_summary c.answer_and_tell.ensures.run.runs;
  help = prints_help c.answer_and_tell.ensures.run.runs;
  usage = refuses_words c.answer_and_tell.ensures.run.runs;
  refused = refuses_deck c.answer_and_tell.ensures.run.runs;
  list_limit = refuses_weight c.answer_and_tell.ensures.run.runs;
  order_limit = refuses_orders c.answer_and_tell.ensures.run.runs;
  too_long = refuses_length c.answer_and_tell.ensures.run.runs;
  read_fault = fails_to_read c.answer_and_tell.ensures.run.runs;
  unread = c.answer_and_tell.ensures.unread;
  write_fault = λ is. (front_of c.answer_and_tell.ensures.run.runs is).3.rose;
  front = front_of c.answer_and_tell.ensures.run.runs;
  no_memory = unwritten c.answer_and_tell.ensures.run.runs;
  due_words = answers_words c.answer_and_tell.ensures.run.runs;
  due_length = answers_length c.answer_and_tell.ensures.run.runs;
  due = answers_deck c.answer_and_tell.ensures.run.runs;
  known = leaves_diagram _ _ _ c.args.seat.now c.answer_and_tell.new.seat c.answer_and_tell.ensures.run.bears;
  full =
      finds_full _ _ _ c.args.seat.now c.answer_and_tell.new.seat _ c.answer_and_tell.ensures.run.bears;
  went = c.answer_and_tell.ensures.run.seat.0;
  share = c.answer_and_tell.ensures.run.seat.1;
}
