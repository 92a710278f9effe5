use Rattle.std.proofs.Common.{take}
use Rattle.std.specs.{Prelude.All, List.flat_map}
use Rattle.edge_io.specs.Out.{Puts}
use Rattle.deck_reading.specs.{TreeStatements.HasNames, Written.attribute_text}
use Rattle.board_report.proofs.print.put_attributes.Given as goal

abbrev pub invariant-loop-attribute : goal.invariant-loop-attribute
invariant-loop-attribute g l = record {
  so : Puts g.K.Sink.taken g.K.Sink.faults l.initial.out l.out
      (flat_map attribute_text (take l.attribute-index l.attributes));
  named : All HasNames (take l.attribute-index l.attributes);
}
