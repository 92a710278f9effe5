use Rattle.std.proofs.Common.{ℕ, ◌<◌, get_or}
use Rattle.zdd_families.specs.Map.{Grown}
use Rattle.zdd_shared_table.specs.Seats.{map_of}
use Rattle.zdd_build.specs.{declared.worker.Worker.Worker, Workers.HasLed}
use Rattle.zdd_build.proofs.rounds.brief.Given as goal

abbrev pub invariant-loop-i : goal.invariant-loop-i
invariant-loop-i l = record {
  led : HasLed l.task l.initial.seat l.initial.team l.seat l.team;
  learns : (k : ℕ) (d : Worker) → k < l.i → Grown (map_of l.initial.seat) (map_of (get_or l.team k d).ops);
}
