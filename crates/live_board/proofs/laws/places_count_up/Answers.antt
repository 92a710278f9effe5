use Rattle.std.proofs.Common.{[]}
use Rattle.live_board.proofs.PlaceLemmas.{places_from}
use Rattle.live_board.proofs.laws.places_count_up.Goals as goal

pub returns : goal.returns
returns c = λ opening history number live. places_from [] history number live.places
