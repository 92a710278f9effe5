use Rattle.std.proofs.Common.{take}
use Rattle.std.specs.List.{flat_map}
use Rattle.edge_io.specs.Out.{Puts}
use Rattle.text_pieces.specs.Shown.{named}
use Rattle.board_report.proofs.log.put_take.Given as goal

abbrev pub invariant-loop-name : goal.invariant-loop-name
invariant-loop-name g l =
    Puts g.K.Sink.taken g.K.Sink.faults l.initial.out l.out (flat_map named (take l.name-index l.names))
