use Rattle.path_sets.proofs.PathLists.{path_meets_cut}
use Rattle.path_sets.proofs.laws.paths_meet_cuts.Goals as goal

pub returns-clause-each : goal.returns-clause-each
returns-clause-each c = path_meets_cut

pub returns-clause-minimal : goal.returns-clause-minimal
returns-clause-minimal c = λ tree path cut minimal fails. path_meets_cut tree path cut minimal.passes fails
