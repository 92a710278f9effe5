use Rattle.crew_script.specs.Deck.{lines_of}
use Rattle.crew_script.proofs.Standing.{answers_all}
use Rattle.crew_script.proofs.laws.crews_or_first_fault.Goals as goal

pub returns : goal.returns
returns c = λ number bytes. answers_all number (lines_of bytes)
