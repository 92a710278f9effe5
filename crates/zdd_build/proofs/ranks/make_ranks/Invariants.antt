use Rattle.std.proofs.Common.{◌-◌, ◌≤◌, length}
use Rattle.zdd_shared_table.specs.Seats.{map_of}
use Rattle.zdd_build.specs.{Building.IsBuiltTo, Workers.HasLed}
use Rattle.zdd_build.proofs.ranks.make_ranks.Given as goal

abbrev pub invariant-loop-from : goal.invariant-loop-from
invariant-loop-from g l = record {
  within : l.from ≤ length l.task.places.now;
  led : HasLed l.task l.initial.seat l.initial.team l.seat l.team;
  built : IsBuiltTo (map_of l.seat) l.task l.table l.from;
}

abbrev pub decreases-loop-from : goal.decreases-loop-from
decreases-loop-from g l = length l.task.places.now - l.from
