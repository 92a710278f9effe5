use Rattle.std.proofs.Common.{take, suc}
use Rattle.std.specs.Prelude.{zip}
use Rattle.fault_model.specs.TriggerTable.{IsTableOf, AreMarks}
use Rattle.fault_model.proofs.trigger.TriggerTable.over.Given as goal

abbrev pub invariant-loop-index : goal.invariant-loop-index
invariant-loop-index l = record {
  table : IsTableOf l.units (take l.index (zip l.kinds l.inputs)) l.table;
  marks : AreMarks l.units (suc l.index) l.table;
}
