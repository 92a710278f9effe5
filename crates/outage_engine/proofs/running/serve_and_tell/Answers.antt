use Rattle.std.proofs.Common.{inl, refl}
use Rattle.event_counts.specs.Count.{Rose}
use Rattle.board_words.specs.declared.command.Command.TheVariants.{Board}
use Rattle.outage_engine.specs.{declared.status.Status.TheVariants.Done, Store.method_by, Texts.for_board}
use Rattle.outage_engine.proofs.Coming.{bears_by_words, idle_run, left_by_words, refused_by, refused_run, told_run}
use Rattle.outage_engine.proofs.Serving.{gives_board}
use Rattle.outage_engine.proofs.running.serve_and_tell.Goals as goal

pub returns-in-Ok-open_input : goal.returns-in-Ok-open_input
returns-in-Ok-open_input g c =
    let held = g.S.Source.held c.args.source.now in
    let left = g.S.Source.held c.open_input.new.source in
    let rose = Rose (g.S.Source.faults c.args.source.now) (g.S.Source.faults c.open_input.new.source) in
    let before = c.args.seat.now in
    let after = c.open_input.new.seat in
    let board = c.asked_by.result in
    let command = Board board.margin board.asked.most board.asked.workers in
    let says = c.asked_by.ensures.said in
    let opened = c.in-Ok-open_input.opened in
    let listing = opened.listing in
    let told = c.serve.ensures.told in
    record {
      run =
          told_run (left_by_words c.args.words.now held left command says c.open_input.ensures.left)
          (gives_board c.args.words.now held left rose board.margin board.asked.most board.asked.workers says opened
          c.in-Ok-open_input.ensures.opened told.0 told.1)
          (bears_by_words c.args.words.now held left command says before after (Done (method_by listing.root))
          c.in-Ok-open_input.ensures.bears)
          told.2;
    }

pub returns-in-Err-Refused : goal.returns-in-Err-Refused
returns-in-Err-Refused g c =
    let held = g.S.Source.held c.args.source.now in
    let left = g.S.Source.held c.open_input.new.source in
    let rose = Rose (g.S.Source.faults c.args.source.now) (g.S.Source.faults c.open_input.new.source) in
    let board = c.asked_by.result in
    let command = Board board.margin board.asked.most board.asked.workers in
    let says = c.asked_by.ensures.said in
    record {
      run =
          refused_run (left_by_words c.args.words.now held left command says c.open_input.ensures.left)
          c.in-Err-Refused.refusal
          (refused_by c.args.words.now held left command says rose c.in-Err-Refused.refusal
          (for_board board.asked.most, refl, rw c.in-Err-Refused.field-0-is at c.in-Err-Refused.ensures.refused))
          c.tell_refusal.ensures.told;
    }

pub returns-in-Err-NoMemory : goal.returns-in-Err-NoMemory
returns-in-Err-NoMemory g c =
    let board = c.asked_by.result in
    record {
      run =
          idle_run
          (left_by_words c.args.words.now (g.S.Source.held c.args.source.now)
          (g.S.Source.held c.open_input.new.source) (Board board.margin board.asked.most board.asked.workers)
          c.asked_by.ensures.said c.open_input.ensures.left) refl;
    }

pub returns-in_default : goal.returns-in_default
returns-in_default g c = record { run = idle_run (inl refl, refl) refl }
