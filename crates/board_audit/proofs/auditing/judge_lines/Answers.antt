use Rattle.std.proofs.Common.{◌+◌, ◌<◌, ap, subst, ◌∙◌}
use Rattle.crew_script.specs.Dockets.{request_count}
use Rattle.board_audit.proofs.Judging.{read_one, read_length, stops_at}
use Rattle.board_audit.proofs.auditing.judge_lines.Goals as goal

pub returns-in-None : goal.returns-in-None
returns-in-None c =
    stops_at c.loop-place.invariant.read c.in-None.ensures.kept c.loop-place.place c.loop-place.invariant.long
    c.requires.kept
    (subst (λ count. c.loop-place.place < count) (c.total-place-end.ensures.count ∙ ap request_count c.dockets.ensures)
    c.loop-place-test.true) c.in-None.ensures.read

pub loop-place-preserved : goal.loop-place-preserved
loop-place-preserved c = record {
  read = read_one c.loop-place.invariant.read c.in-Some.ensures.read;
  long = read_length c.in-Some.ensures.read ∙ ap (λ n. n + 1) c.loop-place.invariant.long;
}
