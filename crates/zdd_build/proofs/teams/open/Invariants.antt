use Rattle.std.proofs.Common.{◌≡◌, ◌≤◌, All, length}
use Rattle.std.specs.Prelude.{vec_capacity}
use Rattle.zdd_build.specs.Workers.{HasSplit, IsNew, IsReady}
use Rattle.zdd_build.proofs.teams.open.Given as goal

abbrev pub invariant-loop-number : goal.invariant-loop-number
invariant-loop-number l = record {
  count : length l.team.items ≡ l._number;
  room : l.size.workers ≤ vec_capacity l.team;
  split : HasSplit l._number l.initial.seat l.seat;
  ready : All (IsReady l.task) l.team.items;
  new : All IsNew l.team.items;
}
