use Rattle.std.proofs.Common.{◌+◌, ◌*◌, length}
use Rattle.cut_sequences.proofs.GoingLemmas.{HasGone}
use Rattle.cut_sequences.proofs.search.Search.+search.Given as goal

abbrev pub decreases-go_on : goal.decreases-go_on
decreases-go_on l = 3 * length l.self.now.left.items + 2

abbrev pub decreases-go_through : goal.decreases-go_through
decreases-go_through l = 3 * length l.self.now.left.items + 1

abbrev pub decreases-fail_at : goal.decreases-fail_at
decreases-fail_at l = 3 * length l.self.now.left.items

abbrev pub invariant-go_through-loop-i : goal.invariant-go_through-loop-i
invariant-go_through-loop-i l = HasGone l.initial.self l.self l.i
