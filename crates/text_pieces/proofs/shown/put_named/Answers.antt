use Rattle.std.proofs.Common.{sym, ◌∙◌, ap, is_err}
use Rattle.edge_io.proofs.OutLemmas.{Puts-trans}
use Rattle.text_pieces.specs.Shown.{show}
use Rattle.text_pieces.proofs.Putting.{first_short}
use Rattle.text_pieces.proofs.shown.put_named.Goals as goal

pub returns-in_err-put-clause-puts : goal.returns-in_err-put-clause-puts
returns-in_err-put-clause-puts g c =
    first_short g.K.Sink.taken g.K.Sink.faults (show c.args.name.now)
    c.put.ensures.puts (sym c.put.ensures.answer ∙ ap is_err c.in_err-put.was)

pub returns-clause-puts : goal.returns-clause-puts
returns-clause-puts g c =
    Puts-trans c.put.ensures.puts c.put_shown.ensures.puts
