use Rattle.std.proofs.Common.{◌+◌, ◌*◌, length}
use Rattle.crew_workers.proofs.serving.+fn-serve_each-join+arg2+serve_each.Given as goal

abbrev pub decreases-join+arg2 : goal.decreases-join+arg2
decreases-join+arg2 g l = 2 * length l.passes.passes + 1

abbrev pub decreases-serve_each : goal.decreases-serve_each
decreases-serve_each g l = 2 * length l.passes.passes
