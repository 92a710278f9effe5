use Rattle.std.proofs.Common.{sym}
use Rattle.board_words.specs.declared.command.Command.TheVariants.{Board}
use Rattle.outage_engine.proofs.opening.asked_by.Goals as goal

pub returns-clause-asked : goal.returns-clause-asked
returns-clause-asked c =
    let bounds =
    c.numbers_are_within_bounds.ensures.within
    (Board c.in-Some-Board.margin c.in-Some-Board.most c.in-Some-Board.workers) c.args.words.now
    (sym (rw c.in-Some-Board.field-0-is at c.in-Some-Board.ensures)) in
    record {
      margin = bounds.0;
      asked = record { most = bounds.1; workers = record { some = bounds.2; few = bounds.3 } };
    }
