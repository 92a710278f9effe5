use Rattle.std.proofs.Common.{length}
use Rattle.many_families.proofs.many.+union_of_all.Given as goal

abbrev pub decreases-union_of_all : goal.decreases-union_of_all
decreases-union_of_all l = length l.list.now
