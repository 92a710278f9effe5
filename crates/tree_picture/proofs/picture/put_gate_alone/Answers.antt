use Rattle.std.proofs.Common.{sym, ◌∙◌, ap, is_err}
use Rattle.std.specs.Prelude.{codes}
use Rattle.edge_io.proofs.OutLemmas.{Puts-trans}
use Rattle.text_pieces.proofs.Putting.{first_short}
use Rattle.tree_picture.proofs.picture.put_gate_alone.Goals as goal

pub returns-in_err-put_gate_line-clause-puts : goal.returns-in_err-put_gate_line-clause-puts
returns-in_err-put_gate_line-clause-puts g c =
    first_short g.K.Sink.taken g.K.Sink.faults (codes "\n")
    c.put_gate_line.ensures.puts (sym c.put_gate_line.ensures.answer ∙ ap is_err c.in_err-put_gate_line.was)

pub returns-clause-puts : goal.returns-clause-puts
returns-clause-puts g c =
    Puts-trans c.put_gate_line.ensures.puts c.put.ensures.puts
