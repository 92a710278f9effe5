use Rattle.std.proofs.Common.{refl, sym}
use Rattle.outage_engine.proofs.Coming.{answered_run, declined_run, idle_run, left_by_words}
use Rattle.outage_engine.proofs.running.answer_and_tell.Goals as goal

pub returns-in-Ok-answer_command-clause-run : goal.returns-in-Ok-answer_command-clause-run
returns-in-Ok-answer_command-clause-run g c =
    answered_run c.args.words.now c.in-Some.command (sym c.in-Some.ensures) c.in-Ok-answer_command.answer
    c.in-Ok-answer_command.ensures.came c.tell.ensures.told

pub returns-in-Err-Refused-clause-run : goal.returns-in-Err-Refused-clause-run
returns-in-Err-Refused-clause-run g c =
    declined_run c.args.words.now c.in-Some.command (sym c.in-Some.ensures) c.in-Err-Refused.refusal
    (rw c.in-Err-Refused.field-0-is at c.in-Err-Refused.ensures.came) c.tell_refusal-in-Err-Refused.ensures.told

pub returns-in-Err-NoMemory-clause-run : goal.returns-in-Err-NoMemory-clause-run
returns-in-Err-NoMemory-clause-run g c =
    idle_run
    (left_by_words c.args.words.now (g.S.Source.held c.args.source.now) (g.S.Source.held c.answer_command.new.source)
    c.in-Some.command (sym c.in-Some.ensures) c.answer_command.ensures.came.seat) refl
