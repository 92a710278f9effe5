use Rattle.fault_definitions.proofs.CutLaws.{smaller_fails_not}
use Rattle.fault_definitions.proofs.laws.less_than_minimal_is_no_cut.Goals as goal

pub returns : goal.returns
returns c = λ tree set smaller member. smaller_fails_not tree tree.top set smaller member
