use Rattle.wave_planner.proofs.RoundLemmas.{planned_granted}
use Rattle.wave_planner.proofs.laws.planned_requests_are_granted.Goals as goal

pub returns-clause-granted : goal.returns-clause-granted
returns-clause-granted c tree cuts margin wanted waves history kept fit once known legal whole =
    (planned_granted history kept fit once known legal whole).0

pub returns-clause-none_out : goal.returns-clause-none_out
returns-clause-none_out c tree cuts margin wanted waves history kept fit once known legal whole =
    (planned_granted history kept fit once known legal whole).1
