use Rattle.margin_policy.proofs.TestLemmas.{RisesSoFar}
use Rattle.board_tests.proofs.margin_policy_tests.rises.Given as goal

abbrev pub invariant-loop-i : goal.invariant-loop-i
invariant-loop-i l = RisesSoFar l.units l.i
