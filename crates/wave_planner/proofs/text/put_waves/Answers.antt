use Rattle.std.proofs.Common.{sym, ◌∙◌, ap, is_err}
use Rattle.std.specs.List.{flat_map}
use Rattle.std.proofs.lemmas.Result.{on_ok_weaker}
use Rattle.edge_io.proofs.OutLemmas.{Puts-trans}
use Rattle.text_pieces.proofs.Putting.{first_short}
use Rattle.wave_planner.specs.WavesText.{wave_lines}
use Rattle.wave_planner.proofs.text.put_waves.Goals as goal

pub returns-in_err-put-clause-puts : goal.returns-in_err-put-clause-puts
returns-in_err-put-clause-puts g c =
    first_short g.K.Sink.taken g.K.Sink.faults (flat_map (wave_lines c.args.tree.now) c.args.waves.now)
    c.put.ensures.puts (sym c.put.ensures.answer ∙ ap is_err c.in_err-put.was)

pub returns-clause-puts : goal.returns-clause-puts
returns-clause-puts g c = Puts-trans c.put.ensures.puts c.put_each.ensures.puts

pub returns-clause-read : goal.returns-clause-read
returns-clause-read g c =
    on_ok_weaker c.put_each.result
    (λ names cuts margin wanted fit once known.
    c.written_waves_say_one_crew.ensures c.args.tree.now cuts margin wanted c.args.waves.now c.units.ensures.kept names
    fit once known) c.put_each.ensures.named
