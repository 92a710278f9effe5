use Rattle.std.proofs.Common.{take}
use Rattle.std.specs.List.{flat_map}
use Rattle.edge_io.specs.Out.{Puts}
use Rattle.board_report.specs.PrintText.{input_text}
use Rattle.board_report.proofs.print.put_inputs.Given as goal

abbrev pub invariant-loop-input : goal.invariant-loop-input
invariant-loop-input g l =
    Puts g.K.Sink.taken g.K.Sink.faults l.initial.out l.out (flat_map (input_text l.tree) (take l.input-index l.inputs))
