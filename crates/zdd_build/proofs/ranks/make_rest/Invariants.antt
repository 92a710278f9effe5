use Rattle.zdd_shared_table.specs.Seats.{map_of}
use Rattle.zdd_build.specs.{Building.IsBuiltTo, Workers.GoesOn}
use Rattle.zdd_build.proofs.ranks.make_rest.Given as goal

abbrev pub invariant-loop-place : goal.invariant-loop-place
invariant-loop-place g l = record {
  built : IsBuiltTo (map_of l.worker.ops) l.run.task l.table l.place;
  goes_on : GoesOn l.run.task l.initial.worker l.worker;
}
