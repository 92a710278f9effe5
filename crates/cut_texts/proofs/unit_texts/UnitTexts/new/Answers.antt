use Rattle.std.proofs.Common.{◌∙◌, ap, arith}
use Rattle.text_pieces.specs.Shown.{named}
use Rattle.cut_texts.proofs.UnitTextsLemmas.{none_yet, one_more, all_of_them}
use Rattle.cut_texts.proofs.unit_texts.UnitTexts.new.Goals as goal

pub loop-before-init : goal.loop-before-init
loop-before-init c = none_yet c.args.tree.now c.new-rows.ensures

pub loop-before-preserved : goal.loop-before-preserved
loop-before-preserved c =
    one_more c.args.tree.now
    c.loop-before.invariant (omega (arith, c.loop-before-test.true, c.units-before-end.ensures.count))
    (c.as_slice.ensures.value ∙ c.in_ok-show.ensures ∙ ap named c.name.ensures) c.in_ok-push.ensures.ok

pub returns : goal.returns
returns c =
    all_of_them c.args.tree.now c.loop-before.invariant
    (omega (arith, c.loop-before-test.false, c.units-before-end.ensures.count))
