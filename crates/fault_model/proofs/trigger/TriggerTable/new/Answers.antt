use Rattle.std.proofs.Common.{rules}
use Rattle.fault_model.proofs.TriggerLemmas.{no_lists, no_marks}
use Rattle.fault_model.proofs.trigger.TriggerTable.new.Goals as goal

pub returns-clause-lists : goal.returns-clause-lists
returns-clause-lists c = no_lists c.in_ok-empty_lists.ensures

pub returns-clause-marks : goal.returns-clause-marks
returns-clause-marks c = no_marks (search rules)
