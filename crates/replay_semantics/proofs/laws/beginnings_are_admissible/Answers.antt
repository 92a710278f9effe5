use Rattle.replay_semantics.proofs.AdmissionLaws.{admissible_before}
use Rattle.replay_semantics.proofs.laws.beginnings_are_admissible.Goals as goal

pub returns : goal.returns
returns c = admissible_before
