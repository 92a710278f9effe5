use Rattle.fault_definitions.specs.Trigger.{below}
use Rattle.family_memory.specs.Memory.{Went}
use Rattle.zdd_build.specs.Workers.{IsEquipped, KeepsSeat}
use Rattle.zdd_build.proofs.OwnReferences.{AreRead}
use Rattle.zdd_build.proofs.own.read_below.Given as goal

abbrev pub invariant-loop-i : goal.invariant-loop-i
invariant-loop-i l = record {
  went : Went l.initial.worker.memory l.worker.memory;
  read : AreRead l.worker.memory l.tree (below l.tree l.fn.node) l.worker.rooms.list.items l.i;
  equipped : IsEquipped l.tree l.worker;
  keeps : KeepsSeat l.initial.worker l.worker;
}
