use Rattle.std.specs.Prelude.{Option, Some}
use Rattle.std.proofs.Common.{refl, subst, sym, ◌∙◌}
use Rattle.board_words.specs.{declared.command.Command.Command, declared.command.Command.TheVariants.Board}
use Rattle.outage_engine.proofs.running.run.Goals as goal

-- a command is `board`, so that words of `board` are those of no other command
abbrev OfBoard : Option Command → Type 0
OfBoard (Some (Board margin most workers)) = Unit {0}
OfBoard _ = ⊥

pub returns-then-is_board : goal.returns-then-is_board
returns-then-is_board g c =
    let said = (c.if-is_board.ensures.yes refl).3 in
    record {
      command = c.run_board.ensures.command;
      cuts = λ most workers is done. absurd (subst OfBoard (sym said ∙ is) tt);
      board = c.run_board.ensures.board;
      safe = c.run_board.ensures.safe;
      check = λ is done. absurd (subst OfBoard (sym said ∙ is) tt);
      print = λ is done. absurd (subst OfBoard (sym said ∙ is) tt);
      diagram = λ workers method is done. absurd (subst OfBoard (sym said ∙ is) tt);
      make = λ number is done. absurd (subst OfBoard (sym said ∙ is) tt);
      summary = λ number is done. absurd (subst OfBoard (sym said ∙ is) tt);
      help = λ is done. absurd (subst OfBoard (sym said ∙ is) tt);
      usage = c.run_board.ensures.usage;
      refused = c.run_board.ensures.refused;
      list_limit = c.run_board.ensures.list_limit;
      order_limit = c.run_board.ensures.order_limit;
      too_long = c.run_board.ensures.too_long;
      read_fault = c.run_board.ensures.read_fault;
      unread = c.run_board.ensures.unread;
      write_fault = c.run_board.ensures.write_fault;
      front = c.run_board.ensures.front;
      no_memory = c.run_board.ensures.no_memory;
      due_words = c.run_board.ensures.due_words;
      due_length = c.run_board.ensures.due_length;
      due = c.run_board.ensures.due;
      known = c.run_board.ensures.known;
      full = c.run_board.ensures.full;
      went = c.run_board.ensures.went;
      share = c.run_board.ensures.share;
    }

pub returns-else-is_board : goal.returns-else-is_board
returns-else-is_board g c = record {
  command = c.run_cuts.ensures.command;
  cuts = c.run_cuts.ensures.cuts;
  board = λ margin most workers is. absurd (c.if-is_board.ensures.no refl margin most workers is);
  safe = λ margin most workers is. absurd (c.if-is_board.ensures.no refl margin most workers is);
  check = c.run_cuts.ensures.check;
  print = c.run_cuts.ensures.print;
  diagram = c.run_cuts.ensures.diagram;
  make = c.run_cuts.ensures.make;
  summary = c.run_cuts.ensures.summary;
  help = c.run_cuts.ensures.help;
  usage = c.run_cuts.ensures.usage;
  refused = c.run_cuts.ensures.refused;
  list_limit = c.run_cuts.ensures.list_limit;
  order_limit = c.run_cuts.ensures.order_limit;
  too_long = c.run_cuts.ensures.too_long;
  read_fault = c.run_cuts.ensures.read_fault;
  unread = c.run_cuts.ensures.unread;
  write_fault = c.run_cuts.ensures.write_fault;
  front = c.run_cuts.ensures.front;
  no_memory = c.run_cuts.ensures.no_memory;
  due_words = c.run_cuts.ensures.due_words;
  due_length = c.run_cuts.ensures.due_length;
  due = c.run_cuts.ensures.due;
  known = c.run_cuts.ensures.known;
  full = c.run_cuts.ensures.full;
  went = c.run_cuts.ensures.went;
  share = c.run_cuts.ensures.share;
}
