use Rattle.std.proofs.Common.{sym, ◌∙◌, ap, is_err, ◌++◌}
use Rattle.std.specs.Prelude.{codes}
use Rattle.fault_definitions.specs.Tree.{name_of}
use Rattle.text_pieces.proofs.Putting.{all_three, first_short, second_short}
use Rattle.tree_picture.specs.{Labels.label_text, PictureText.unit_shape}
use Rattle.tree_picture.proofs.PutLemmas.{headed}
use Rattle.tree_picture.proofs.lines.put_unit_line.Goals as goal

pub returns-in_err-put_label_head-clause-puts : goal.returns-in_err-put_label_head-clause-puts
returns-in_err-put_label_head-clause-puts g c =
    headed g.K.Sink.taken g.K.Sink.faults c.args.unit
    (label_text (name_of c.args.tree.now c.args.unit) ++ (codes "\", shape=" ++ (unit_shape c.args.marked.now
    c.args.unit ++ codes "];"))) (first_short g.K.Sink.taken g.K.Sink.faults
    (label_text (name_of c.args.tree.now c.args.unit) ++ (codes "\", shape=" ++ (unit_shape c.args.marked.now
    c.args.unit ++ codes "];")))
    c.put_label_head.ensures.puts (sym c.put_label_head.ensures.answer ∙ ap is_err c.in_err-put_label_head.was))

pub returns-in_err-put_name-clause-puts : goal.returns-in_err-put_name-clause-puts
returns-in_err-put_name-clause-puts g c =
    headed g.K.Sink.taken g.K.Sink.faults c.args.unit
    (label_text (name_of c.args.tree.now c.args.unit) ++ (codes "\", shape=" ++ (unit_shape c.args.marked.now
    c.args.unit ++ codes "];")))
    (second_short g.K.Sink.taken g.K.Sink.faults (codes "\", shape=" ++ (unit_shape c.args.marked.now
    c.args.unit ++ codes "];"))
    c.put_label_head.ensures.puts c.put_name.ensures.puts
    (sym c.put_name.ensures.answer ∙ ap is_err c.in_err-put_name.was))

pub returns-clause-puts : goal.returns-clause-puts
returns-clause-puts g c =
    headed g.K.Sink.taken g.K.Sink.faults c.args.unit
    (label_text (name_of c.args.tree.now c.args.unit) ++ (codes "\", shape=" ++ (unit_shape c.args.marked.now
    c.args.unit ++ codes "];"))) (all_three g.K.Sink.taken g.K.Sink.faults c.put_name.new.out
    c.put_label_head.ensures.puts c.put_name.ensures.puts c.put_unit_shape.ensures.puts)
