use Rattle.fault_definitions.proofs.ReadingLaws.{reads-node}
use Rattle.fault_definitions.proofs.laws.reading_by_inputs.Goals as goal

pub returns : goal.returns
returns c = reads-node
