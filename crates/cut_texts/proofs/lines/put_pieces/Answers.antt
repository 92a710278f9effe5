use Rattle.std.proofs.{Common.subst, lemmas.List.take_all}
use Rattle.edge_io.specs.Out.{Puts}
use Rattle.edge_io.proofs.OutLemmas.{Puts-none}
use Rattle.text_pieces.proofs.Putting.{all_three}
use Rattle.cut_texts.specs.UnitTexts.{spaced}
use Rattle.cut_texts.proofs.LineLemmas.{has_text, one_more_put}
use Rattle.cut_texts.proofs.lines.put_pieces.Goals as goal

pub loop-unit-init : goal.loop-unit-init
loop-unit-init g c = Puts-none

pub text-requires : goal.text-requires
text-requires g c =
    has_text c.loop-unit.unit-index c.requires.spelled c.loop-unit-test.true c.unit-item.is

pub loop-unit-preserved : goal.loop-unit-preserved
loop-unit-preserved g c =
    one_more_put c.loop-unit.unit-index c.requires.spelled
    c.loop-unit-test.true c.unit-item.is c.text.ensures c.loop-unit.invariant c.put.ensures.puts

pub returns-clause-puts : goal.returns-clause-puts
returns-clause-puts g c =
    all_three g.K.Sink.taken g.K.Sink.faults c.loop-unit.out c.put_all.ensures.puts
    (subst (λ units. Puts g.K.Sink.taken g.K.Sink.faults c.put_all.new.out c.loop-unit.out
    (spaced c.args.names.now.tree.now units)) (take_all c.loop-unit.unit-index c.args.units.now c.loop-unit-test.false)
    c.loop-unit.invariant)
    c.put-2.ensures.puts
