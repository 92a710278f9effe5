use Rattle.std.proofs.Common.{subst}
use Rattle.edge_io.specs.Out.{Puts}
use Rattle.edge_io.proofs.OutLemmas.{Puts-trans}
use Rattle.deck_reading.specs.Written.{quoted}
use Rattle.text_pieces.specs.GateWords.{gate_word}
use Rattle.board_report.specs.PrintText.{input_text}
use Rattle.fault_definitions.specs.Tree.{inputs_of}
use Rattle.std.specs.List.{flat_map}
use Rattle.text_pieces.proofs.Putting.{all_four}
use Rattle.board_report.proofs.print.put_gate_line.Goals as goal

pub returns-clause-puts : goal.returns-clause-puts
returns-clause-puts g c =
    let tree = c.args.tree.now in
    let inputs = flat_map (input_text tree) (inputs_of tree c.args.gate) in
    all_four g.K.Sink.taken g.K.Sink.faults c.put.new.self
    (subst (λ name. Puts g.K.Sink.taken g.K.Sink.faults c.args.out.now c.put_quoted.new.out (quoted name))
    c.node_name.ensures c.put_quoted.ensures.puts)
    c.put.ensures.puts
    (subst (λ kind. Puts g.K.Sink.taken g.K.Sink.faults c.put.new.self c.put_gate_word.new.out (gate_word kind))
    c.kind.ensures c.put_gate_word.ensures.puts) (Puts-trans
    (subst (λ inputs. Puts g.K.Sink.taken g.K.Sink.faults c.put_gate_word.new.out c.put_inputs.new.out
    (flat_map (input_text tree) inputs)) c.inputs.ensures.inputs c.put_inputs.ensures)
    c.put-2.ensures.puts)
