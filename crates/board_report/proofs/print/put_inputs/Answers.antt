use Rattle.std.proofs.{Common.subst, lemmas.List.take_all}
use Rattle.std.specs.List.{flat_map}
use Rattle.edge_io.specs.Out.{Puts}
use Rattle.edge_io.proofs.OutLemmas.{Puts-none}
use Rattle.board_report.specs.PrintText.{input_text}
use Rattle.board_report.proofs.Pieces.{one_more_put}
use Rattle.board_report.proofs.print.put_inputs.Goals as goal

pub loop-input-init : goal.loop-input-init
loop-input-init g c = Puts-none

pub loop-input-preserved : goal.loop-input-preserved
loop-input-preserved g c =
    one_more_put (input_text c.args.tree.now) c.args.inputs.now c.loop-input.input-index c.loop-input-test.true
    c.input-item.is c.loop-input.invariant c.put_input.ensures

pub returns : goal.returns
returns g c =
    subst (λ inputs. Puts g.K.Sink.taken g.K.Sink.faults c.args.out.now c.loop-input.out
    (flat_map (input_text c.args.tree.now) inputs))
    (take_all c.loop-input.input-index c.args.inputs.now c.loop-input-test.false) c.loop-input.invariant
