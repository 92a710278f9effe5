use Rattle.std.proofs.Common.{arith}
use Rattle.margin_policy.proofs.TestLemmas.{rises-all}
use Rattle.board_tests.proofs.margin_policy_tests.rises.Goals as goal

pub returns : goal.returns
returns c = λ _. rises-all (omega arith) c.loop-i.invariant
