use Rattle.fault_definitions.proofs.StepLaws.{step-node}
use Rattle.fault_definitions.proofs.laws.step_by_inputs.Goals as goal

pub returns : goal.returns
returns c = step-node
