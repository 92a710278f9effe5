use Rattle.wave_planner.proofs.ReadLemmas.{text_read}
use Rattle.wave_planner.proofs.laws.written_waves_say_one_crew.Goals as goal

pub returns : goal.returns
returns c = text_read
