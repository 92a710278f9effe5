use Rattle.std.proofs.Common.{sym, ◌∙◌, ap, subst, is_err}
use Rattle.std.specs.List.{flat_map}
use Rattle.edge_io.specs.Out.{Puts}
use Rattle.edge_io.proofs.OutLemmas.{Puts-trans}
use Rattle.fault_definitions.specs.Tree.{inputs_of}
use Rattle.text_pieces.proofs.Putting.{first_short}
use Rattle.tree_picture.specs.PictureText.{input_text}
use Rattle.tree_picture.proofs.picture.put_gate.Goals as goal

pub returns-in_err-put_gate_alone-clause-puts : goal.returns-in_err-put_gate_alone-clause-puts
returns-in_err-put_gate_alone-clause-puts g c =
    first_short g.K.Sink.taken g.K.Sink.faults
    (flat_map (input_text c.args.tree.now c.args.gate) (inputs_of c.args.tree.now c.args.gate))
    c.put_gate_alone.ensures.puts (sym c.put_gate_alone.ensures.answer ∙ ap is_err c.in_err-put_gate_alone.was)

pub returns-clause-puts : goal.returns-clause-puts
returns-clause-puts g c =
    Puts-trans c.put_gate_alone.ensures.puts
    (subst (λ inputs. Puts g.K.Sink.taken g.K.Sink.faults c.put_gate_alone.new.out c.put_inputs.new.out
    (flat_map (input_text c.args.tree.now c.args.gate) inputs)) c.inputs.ensures.inputs c.put_inputs.ensures.puts)
