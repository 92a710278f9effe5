use Rattle.zdd_shared_table.proofs.Owned.{filled_stays}
use Rattle.zdd_shared_table.proofs.laws.filled_words_stay.Goals as goal

pub returns : goal.returns
returns c = filled_stays
