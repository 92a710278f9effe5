use Rattle.std.proofs.Common.{◌≡◌, length}
use Rattle.board_audit.proofs.Judging.{HasRead}
use Rattle.board_audit.proofs.auditing.judge_lines.Given as goal

abbrev pub invariant-loop-place : goal.invariant-loop-place
invariant-loop-place l = record {
  read : HasRead l.initial.board l.initial.rest l.board l.rest;
  long : length l.board.history ≡ l.place;
}
