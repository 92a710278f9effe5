use Rattle.std.proofs.Common.{◌≡◌, ◌∙◌, true, refl, sym, subst}
use Rattle.std.proofs.{lemmas.Bool.not-false, lemmas.Bool.not-true, lemmas.List.take_all}
use Rattle.unit_sets.specs.UnitList.{among}
use Rattle.fault_model.specs.Order.{AreDistinct}
use Rattle.fault_model.proofs.OrderLemmas.{seen_more, distinct_more, stands_twice}
use Rattle.fault_model.proofs.order.are_distinct.Goals as goal

pub returns-then-not-insert : goal.returns-then-not-insert
returns-then-not-insert c =
    let met : among c.loop-unit.seen c.unit-item.result ≡ true = not-false _ (sym c.if-not-insert.ensures.changed) in (
      λ no_claim. absurd cc,
      stands_twice c.args.units.now c.loop-unit.unit-index
          c.loop-unit-test.true c.unit-item.is (sym (c.loop-unit.invariant.seen c.unit-item.result) ∙ met),
    )

pub loop-unit-preserved : goal.loop-unit-preserved
loop-unit-preserved c = record {
  seen =
      seen_more c.args.units.now c.loop-unit.unit-index c.loop-unit-test.true c.unit-item.is _
      c.loop-unit.invariant.seen c.if-not-insert.ensures.after;
  distinct =
      distinct_more c.args.units.now c.loop-unit.unit-index c.loop-unit-test.true c.unit-item.is
      c.loop-unit.invariant.distinct
      (sym (c.loop-unit.invariant.seen c.unit-item.result) ∙ not-true _ (sym c.if-not-insert.ensures.changed));
}

pub returns : goal.returns
returns c = (
  λ _. subst AreDistinct (take_all c.loop-unit.unit-index c.args.units.now c.loop-unit-test.false)
      c.loop-unit.invariant.distinct,
  λ _. refl,
)
