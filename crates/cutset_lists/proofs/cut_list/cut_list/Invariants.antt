use Rattle.std.proofs.Common.{◌≡◌, ◌≤◌, take}
use Rattle.unit_sets.specs.CutOrder.{weight, weight_limit}
use Rattle.cutset_lists.proofs.cut_list.cut_list.Given as goal

abbrev pub invariant-loop-i : goal.invariant-loop-i
invariant-loop-i l = record { pushed : l.cuts ≡ take l.i l.sets; within : weight l.cuts ≤ weight_limit }
