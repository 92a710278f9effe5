use Rattle.std.proofs.Common.{◌≡◌, ℕ, ◌≤◌, ◌<◌, length, get_or}
use Rattle.zdd_shared_table.specs.Seats.{map_of}
use Rattle.zdd_build.specs.{declared.worker.Worker.Worker, Building.IsBuiltTo}
use Rattle.zdd_build.specs.Workers.{IsAtWork, IsReady, Learned}
use Rattle.zdd_build.proofs.rounds.collect.Given as goal

abbrev pub invariant-loop-i : goal.invariant-loop-i
invariant-loop-i l = record {
  learned : Learned l.initial.seat l.seat;
  size : length l.team ≡ length l.initial.team;
  ready : (k : ℕ) (d : Worker) → k < l.i → IsReady l.run.task (get_or l.team k d);
  left : (k : ℕ) (d : Worker) → l.i ≤ k → k < length l.team → IsAtWork l.run.task (get_or l.team k d);
  built : IsBuiltTo (map_of l.seat) l.run.task l.table l.run.from;
}
