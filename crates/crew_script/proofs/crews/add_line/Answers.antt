use Rattle.std.proofs.Common.{sym, subst}
use Rattle.crew_script.specs.Lines.{SaysMargin}
use Rattle.crew_script.proofs.Saying.{said_small}
use Rattle.crew_script.proofs.crews.add_line.Goals as goal

pub add-requires-clause-margin : goal.add-requires-clause-margin
add-requires-clause-margin c = subst SaysMargin (sym c.in_ok-said.ensures) (said_small c.args.row.now)
