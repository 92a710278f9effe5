use Rattle.wave_planner.proofs.GrantLemmas.{any_order_granted}
use Rattle.wave_planner.proofs.laws.every_order_of_a_wave_is_granted.Goals as goal

pub returns : goal.returns
returns c = any_order_granted
