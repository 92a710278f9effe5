use Rattle.std.proofs.Common.{sym, ◌∙◌, ap, is_err, ◌++◌}
use Rattle.std.specs.Prelude.{codes}
use Rattle.fault_definitions.specs.Tree.{kind_of}
use Rattle.text_pieces.proofs.Putting.{all_three, first_short, second_short}
use Rattle.tree_picture.specs.PictureText.{gate_label, gate_shape}
use Rattle.tree_picture.proofs.PutLemmas.{headed}
use Rattle.tree_picture.proofs.lines.put_gate_line.Goals as goal

pub returns-in_err-put_label_head-clause-puts : goal.returns-in_err-put_label_head-clause-puts
returns-in_err-put_label_head-clause-puts g c =
    headed g.K.Sink.taken g.K.Sink.faults c.args.gate
    (gate_label c.args.tree.now c.args.gate ++ (codes "\", shape=" ++ (gate_shape (kind_of c.args.tree.now
    c.args.gate) ++ codes "];"))) (first_short g.K.Sink.taken g.K.Sink.faults
    (gate_label c.args.tree.now c.args.gate ++ (codes "\", shape=" ++ (gate_shape (kind_of c.args.tree.now
    c.args.gate) ++ codes "];")))
    c.put_label_head.ensures.puts (sym c.put_label_head.ensures.answer ∙ ap is_err c.in_err-put_label_head.was))

pub returns-in_err-put_gate_label-clause-puts : goal.returns-in_err-put_gate_label-clause-puts
returns-in_err-put_gate_label-clause-puts g c =
    headed g.K.Sink.taken g.K.Sink.faults c.args.gate
    (gate_label c.args.tree.now c.args.gate ++ (codes "\", shape=" ++ (gate_shape (kind_of c.args.tree.now
    c.args.gate) ++ codes "];")))
    (second_short g.K.Sink.taken g.K.Sink.faults (codes "\", shape=" ++
    (gate_shape (kind_of c.args.tree.now c.args.gate)
    ++ codes "];"))
    c.put_label_head.ensures.puts c.put_gate_label.ensures.puts
    (sym c.put_gate_label.ensures.answer ∙ ap is_err c.in_err-put_gate_label.was))

pub returns-clause-puts : goal.returns-clause-puts
returns-clause-puts g c =
    headed g.K.Sink.taken g.K.Sink.faults c.args.gate
    (gate_label c.args.tree.now c.args.gate ++ (codes "\", shape=" ++ (gate_shape (kind_of c.args.tree.now
    c.args.gate) ++ codes "];"))) (all_three g.K.Sink.taken g.K.Sink.faults c.put_gate_label.new.out
    c.put_label_head.ensures.puts c.put_gate_label.ensures.puts c.put_gate_shape.ensures.puts)
