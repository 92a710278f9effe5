use Rattle.std.proofs.Common.{ap, inl}
use Rattle.outage_engine.specs.{Gives.own_deck, Gives.wants_of, Texts.for_board}
use Rattle.outage_engine.proofs.Clauses.{answers_deck, answers_length, answers_words, fails_to_read, front_of}
use Rattle.outage_engine.proofs.Clauses.{of_command, prints_board, prints_safely, refuses_deck, refuses_length}
use Rattle.outage_engine.proofs.Clauses.{refuses_orders, refuses_weight, refuses_words, unwritten}
use Rattle.outage_engine.proofs.SeatLemmas.{finds_full, leaves_diagram}
use Rattle.outage_engine.proofs.running.run_board.Goals as goal

pub returns : goal.returns
returns g c = record {
  command = of_command c.serve_and_tell.ensures.run.runs;
  board = prints_board c.serve_and_tell.ensures.run.runs;
  safe = prints_safely c.serve_and_tell.ensures.run.runs;
  usage = refuses_words c.serve_and_tell.ensures.run.runs;
  refused = refuses_deck c.serve_and_tell.ensures.run.runs;
  list_limit = refuses_weight c.serve_and_tell.ensures.run.runs;
  order_limit = refuses_orders c.serve_and_tell.ensures.run.runs;
  too_long = refuses_length c.serve_and_tell.ensures.run.runs;
  read_fault = fails_to_read c.serve_and_tell.ensures.run.runs;
  unread =
      inl (for_board c.requires.command.1, ap wants_of c.requires.command.3, ap own_deck c.requires.command.3);
  write_fault = λ is. (front_of c.serve_and_tell.ensures.run.runs is).3.rose;
  front = front_of c.serve_and_tell.ensures.run.runs;
  no_memory = unwritten c.serve_and_tell.ensures.run.runs;
  due_words = answers_words c.serve_and_tell.ensures.run.runs;
  due_length = answers_length c.serve_and_tell.ensures.run.runs;
  due = answers_deck c.serve_and_tell.ensures.run.runs;
  known = leaves_diagram _ _ _ c.args.seat.now c.serve_and_tell.new.seat c.serve_and_tell.ensures.run.bears;
  full =
      finds_full _ _ _ c.args.seat.now c.serve_and_tell.new.seat _ c.serve_and_tell.ensures.run.bears;
  went = c.serve_and_tell.ensures.run.seat.0;
  share = c.serve_and_tell.ensures.run.seat.1;
}
