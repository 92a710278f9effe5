use Rattle.std.proofs.Common.{sym, ◌∙◌, ap, is_err}
use Rattle.std.specs.Prelude.{◌++◌, codes}
use Rattle.text_pieces.proofs.Putting.{all_three, first_short, second_short}
use Rattle.tree_picture.specs.PictureText.{nodes_text}
use Rattle.tree_picture.proofs.picture.put_picture.Goals as goal

pub returns-in_err-put-clause-puts : goal.returns-in_err-put-clause-puts
returns-in_err-put-clause-puts g c =
    first_short g.K.Sink.taken g.K.Sink.faults (nodes_text c.args.tree.now c.args.marked.now ++ codes "}\n")
    c.put.ensures.puts (sym c.put.ensures.answer ∙ ap is_err c.in_err-put.was)

pub returns-in_err-put_nodes-clause-puts : goal.returns-in_err-put_nodes-clause-puts
returns-in_err-put_nodes-clause-puts g c =
    second_short g.K.Sink.taken g.K.Sink.faults (codes "}\n")
    c.put.ensures.puts c.put_nodes.ensures.puts (sym c.put_nodes.ensures.answer ∙ ap is_err c.in_err-put_nodes.was)

pub returns-clause-puts : goal.returns-clause-puts
returns-clause-puts g c =
    all_three g.K.Sink.taken g.K.Sink.faults c.put_nodes.new.out
    c.put.ensures.puts c.put_nodes.ensures.puts c.put-2.ensures.puts
