use Rattle.std.proofs.{Common.arith, lemmas.Slice.Zip.length-zip}
use Rattle.fault_model.proofs.TriggerLemmas.{dependents_at, table_more, table_full}
use Rattle.fault_model.proofs.trigger.TriggerTable.over.Goals as goal

pub note_gate-requires-clause-dependents : goal.note_gate-requires-clause-dependents
note_gate-requires-clause-dependents c =
    dependents_at c.args.units c.args.kinds.now c.args.inputs.now c.requires.inputs c.loop-index.index
    c.loop-index-test.true _ c.as_slice.ensures.items c.index-inputs-index.is c.requires.dependents

pub loop-index-preserved : goal.loop-index-preserved
loop-index-preserved c = record {
  table =
      table_more c.args.units c.args.kinds.now c.args.inputs.now c.requires.inputs c.loop-index.index
      c.loop-index-test.true _ c.as_slice.ensures.items c.index-inputs-index.is c.loop-index.invariant.table
      c.in_ok-note_gate.ensures.lists;
  marks = c.in_ok-note_gate.ensures.marks;
}

pub returns : goal.returns
returns c =
    table_full c.loop-index.index (omega (arith, length-zip c.args.kinds.now c.args.inputs.now))
    c.loop-index.invariant.table
