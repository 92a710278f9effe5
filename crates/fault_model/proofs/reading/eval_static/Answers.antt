use Rattle.std.proofs.Common.{◌∙◌, length-set, ap}
use Rattle.std.specs.Prelude.{Bool, List}
use Rattle.unit_sets.specs.UnitList.{among}
use Rattle.fault_definitions.specs.Reading.{node_reads}
use Rattle.fault_model.specs.Scratch.{value_in}
use Rattle.fault_model.proofs.EvalLemmas.{read_more, read_all}
use Rattle.fault_model.proofs.reading.eval_static.Goals as goal

pub loop-each-preserved : goal.loop-each-preserved
loop-each-preserved c = record {
  room = length-set _ _ _ ∙ c.loop-each.invariant.room;
  read = rw c.number.ensures (
      read_more c.bottom_up-each-items.ensures.kept c.args.set.now
      c.bottom_up-each-items.ensures.order c.loop-each.scratch-inside.values.items
      c.loop-each.each-index c.loop-each.invariant.room c.loop-each-test.true c.each-item.is
      (c.node_value-value.ensures ∙ ap (λ (values : List Bool). node_reads c.args.tree.now (among c.args.set.now)
      (value_in values) c.each-item.result) c.as_slice.ensures.value)
      c.loop-each.invariant.read);
}

pub returns-clause-reading : goal.returns-clause-reading
returns-clause-reading c =
    c.value.ensures
    ∙ ap (λ (values : List Bool). value_in values c.args.node) c.as_slice-2.ensures.value
    ∙ read_all c.bottom_up-each-items.ensures.kept c.args.set.now
    c.bottom_up-each-items.ensures.order c.loop-each.scratch-inside.values.items
    c.loop-each.each-index c.args.node c.loop-each-test.false c.requires.node c.loop-each.invariant.read
