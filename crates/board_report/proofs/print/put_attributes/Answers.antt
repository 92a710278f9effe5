use Rattle.std.proofs.{Common.subst, lemmas.List.take_all, lemmas.List.Elements.All-more, lemmas.List.Elements.All-nil}
use Rattle.std.specs.{List.flat_map, Prelude.All}
use Rattle.edge_io.specs.Out.{Puts}
use Rattle.edge_io.proofs.OutLemmas.{Puts-none}
use Rattle.deck_reading.specs.{TreeStatements.HasNames, Written.attribute_text}
use Rattle.board_report.proofs.Pieces.{one_more_put}
use Rattle.board_report.proofs.print.put_attributes.Goals as goal

pub loop-attribute-init : goal.loop-attribute-init
loop-attribute-init g c =
    record { so = Puts-none; named = All-nil HasNames }

pub loop-attribute-preserved : goal.loop-attribute-preserved
loop-attribute-preserved g c = record {
  so = one_more_put attribute_text c.args.attributes.now c.loop-attribute.attribute-index
      c.loop-attribute-test.true c.attribute-item.is c.loop-attribute.invariant.so c.put_attribute.ensures.puts;
  named =
      All-more HasNames c.args.attributes.now c.loop-attribute.attribute-index c.attribute-item.result
      c.loop-attribute-test.true c.loop-attribute.invariant.named
      (subst HasNames c.attribute-item.is c.put_attribute.ensures.named);
}

pub returns-clause-puts : goal.returns-clause-puts
returns-clause-puts g c =
    subst (λ attributes. Puts g.K.Sink.taken g.K.Sink.faults c.args.out.now c.loop-attribute.out
    (flat_map attribute_text attributes))
    (take_all c.loop-attribute.attribute-index c.args.attributes.now c.loop-attribute-test.false)
    c.loop-attribute.invariant.so

pub returns-clause-named : goal.returns-clause-named
returns-clause-named g c =
    subst (λ l. All HasNames l)
    (take_all c.loop-attribute.attribute-index c.args.attributes.now c.loop-attribute-test.false)
    c.loop-attribute.invariant.named
