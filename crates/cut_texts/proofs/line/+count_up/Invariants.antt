use Rattle.std.proofs.Common.{length}
use Rattle.cut_texts.proofs.line.+count_up.Given as goal

abbrev pub decreases-count_up : goal.decreases-count_up
decreases-count_up l = length l.digits.now
