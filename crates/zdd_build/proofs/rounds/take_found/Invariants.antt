use Rattle.std.proofs.Common.{◌≡◌}
use Rattle.zdd_shared_table.specs.Seats.{map_of}
use Rattle.zdd_build.specs.Building.{IsBuiltTo}
use Rattle.zdd_build.proofs.rounds.take_found.Given as goal

abbrev pub invariant-loop-i : goal.invariant-loop-i
invariant-loop-i l = record {
  built : IsBuiltTo (map_of l.initial.worker.ops) l.run.task l.table l.run.from;
  worker : l.worker ≡ l.initial.worker;
}
