use Rattle.fault_definitions.proofs.MinimalCuts.{includes_minimal}
use Rattle.fault_definitions.proofs.laws.each_cut_includes_a_minimal_one.Goals as goal

pub returns : goal.returns
returns c = includes_minimal
