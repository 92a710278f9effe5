use Rattle.wave_planner.proofs.FirstFitLemmas.{one_list}
use Rattle.wave_planner.proofs.laws.first_fit_waves_are_one.Goals as goal

pub returns : goal.returns
returns c = one_list
