use Rattle.std.proofs.Common.{subst, sym}
use denote.Param.Send.{sendable}
use Rattle.zdd_build.specs.Workers.{IsAtRun}
use Rattle.zdd_build.proofs.rounds.make_all.Goals as goal

pub for_each_mut-requires-clause-accepts : goal.for_each_mut-requires-clause-accepts
for_each_mut-requires-clause-accepts g c κs within i p inside same = (
  subst (IsAtRun c.args.run c.args.references.now) (sym same) (c.requires.at_run i p.now inside),
  search sendable depth 20,
)
