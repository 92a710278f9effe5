use Rattle.std.proofs.Common.{sym, ◌∙◌, ap, is_err, ◌++◌}
use Rattle.std.specs.Prelude.{codes}
use Rattle.fault_definitions.specs.Tree.{kind_of}
use Rattle.text_pieces.specs.GateWords.{gate_word}
use Rattle.text_pieces.proofs.Putting.{all_three, first_short, second_short}
use Rattle.tree_picture.proofs.lines.put_gate_label.Goals as goal

pub returns-in_err-put_name-clause-puts : goal.returns-in_err-put_name-clause-puts
returns-in_err-put_name-clause-puts g c =
    first_short g.K.Sink.taken g.K.Sink.faults (codes "\\n" ++ gate_word (kind_of c.args.tree.now c.args.gate))
    c.put_name.ensures.puts (sym c.put_name.ensures.answer ∙ ap is_err c.in_err-put_name.was)

pub returns-in_err-put-clause-puts : goal.returns-in_err-put-clause-puts
returns-in_err-put-clause-puts g c =
    second_short g.K.Sink.taken g.K.Sink.faults (gate_word (kind_of c.args.tree.now c.args.gate))
    c.put_name.ensures.puts c.put.ensures.puts (sym c.put.ensures.answer ∙ ap is_err c.in_err-put.was)

pub returns-clause-puts : goal.returns-clause-puts
returns-clause-puts g c =
    all_three g.K.Sink.taken g.K.Sink.faults c.put.new.self
    c.put_name.ensures.puts c.put.ensures.puts c.put_word.ensures.puts
