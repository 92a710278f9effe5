use Rattle.zdd_build.specs.Workers.{IsAtRun}
use Rattle.zdd_build.proofs.rounds.make_some.Given as goal

abbrev pub invariant-loop : goal.invariant-loop
invariant-loop g l = IsAtRun l.run l.references l.worker
