use Rattle.std.proofs.Common.{take}
use Rattle.edge_io.specs.Out.{Puts}
use Rattle.cut_texts.specs.UnitTexts.{spaced}
use Rattle.cut_texts.proofs.lines.put_pieces.Given as goal

abbrev pub invariant-loop-unit : goal.invariant-loop-unit
invariant-loop-unit g l =
    Puts g.K.Sink.taken g.K.Sink.faults l.initial.out l.out (spaced l.names.tree.now (take l.unit-index l.units))
