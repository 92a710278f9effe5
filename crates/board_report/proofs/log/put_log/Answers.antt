use Rattle.std.proofs.Common.{sym, ◌∙◌, ap, is_err}
use Rattle.edge_io.proofs.OutLemmas.{Puts-trans}
use Rattle.board_report.specs.LogText.{entry_lines}
use Rattle.text_pieces.proofs.Putting.{first_short}
use Rattle.board_report.proofs.log.put_log.Goals as goal

pub returns-in_err-put_counted-clause-puts : goal.returns-in_err-put_counted-clause-puts
returns-in_err-put_counted-clause-puts g c =
    first_short g.K.Sink.taken g.K.Sink.faults (entry_lines c.args.dockets.now 1 c.args.history.now)
    c.put_counted.ensures.puts (sym c.put_counted.ensures.answer ∙ ap is_err c.in_err-put_counted.was)

pub returns-clause-puts : goal.returns-clause-puts
returns-clause-puts g c =
    Puts-trans c.put_counted.ensures.puts c.put_entries.ensures.puts
