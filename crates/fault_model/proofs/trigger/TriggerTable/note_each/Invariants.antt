use Rattle.std.proofs.Common.{take}
use Rattle.fault_model.proofs.TriggerLemmas.{HasNoted}
use Rattle.fault_model.proofs.trigger.TriggerTable.note_each.Given as goal

abbrev pub invariant-loop-unit : goal.invariant-loop-unit
invariant-loop-unit l =
    HasNoted l.units l.mark l.trigger (take l.unit-index l.dependents) l.fn.self.lists.items l.fn.self.marks.items
    l.self.lists.items l.self.marks.items
