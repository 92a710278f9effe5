use Rattle.std.proofs.Common.{map, take}
use Rattle.tree_check.specs.Triggers.{HasTriggers, written_gate}
use Rattle.tree_check.proofs.cycles.trigger_table.Given as goal

abbrev pub invariant-loop-gate : goal.invariant-loop-gate
invariant-loop-gate l = HasTriggers l.units (map written_gate (take l.gate-index l.gates)) l.table.items
