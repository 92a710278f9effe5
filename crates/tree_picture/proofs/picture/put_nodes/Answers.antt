use Rattle.std.proofs.Common.{sym, ◌∙◌, ap, is_err}
use Rattle.std.specs.List.{flat_map}
use Rattle.deck_reading.specs.TreeStatements.{gate_numbers}
use Rattle.tree_picture.specs.PictureText.{gate_text}
use Rattle.edge_io.proofs.OutLemmas.{Puts-trans}
use Rattle.text_pieces.proofs.Putting.{first_short}
use Rattle.tree_picture.proofs.picture.put_nodes.Goals as goal

pub returns-in_err-put_units-clause-puts : goal.returns-in_err-put_units-clause-puts
returns-in_err-put_units-clause-puts g c =
    first_short g.K.Sink.taken g.K.Sink.faults (flat_map (gate_text c.args.tree.now) (gate_numbers c.args.tree.now))
    c.put_units.ensures.puts (sym c.put_units.ensures.answer ∙ ap is_err c.in_err-put_units.was)

pub returns-clause-puts : goal.returns-clause-puts
returns-clause-puts g c =
    Puts-trans c.put_units.ensures.puts c.put_gates.ensures.puts
