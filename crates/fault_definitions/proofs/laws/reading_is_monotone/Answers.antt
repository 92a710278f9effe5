use Rattle.fault_definitions.proofs.ReadingLaws.{reads-rises}
use Rattle.fault_definitions.proofs.laws.reading_is_monotone.Goals as goal

pub returns : goal.returns
returns c = reads-rises
