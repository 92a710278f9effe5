use Rattle.std.proofs.Common.{sym, ◌∙◌, ap, is_err, codes}
use Rattle.edge_io.proofs.OutLemmas.{Puts-trans}
use Rattle.text_pieces.proofs.Putting.{first_short}
use Rattle.wave_planner.specs.WavesText.{unit_lines}
use Rattle.wave_planner.proofs.text.put_wave.Goals as goal

pub returns-in_err-put_lines-clause-puts : goal.returns-in_err-put_lines-clause-puts
returns-in_err-put_lines-clause-puts g c =
    first_short g.K.Sink.taken g.K.Sink.faults (unit_lines (codes "return") c.args.tree.now c.args.wave.now)
    c.put_lines.ensures.puts (sym c.put_lines.ensures.answer ∙ ap is_err c.in_err-put_lines.was)

pub returns-clause-puts : goal.returns-clause-puts
returns-clause-puts g c = Puts-trans c.put_lines.ensures.puts c.put_lines-2.ensures.puts
