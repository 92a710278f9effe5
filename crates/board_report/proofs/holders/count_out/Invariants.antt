use Rattle.std.proofs.Common.{◌≡◌, length}
use Rattle.unit_sets.specs.Words.{passing_below}
use Rattle.margin_policy.proofs.HeldLaws.{is_held}
use Rattle.board_report.proofs.holders.count_out.Given as goal

abbrev pub invariant-loop-number : goal.invariant-loop-number
invariant-loop-number l = l.count ≡ length (passing_below (is_held l.standing.held) l.number)
