use Rattle.std.proofs.Common.{◌≡◌, drop, map}
use Rattle.tree_check.specs.{Said.tops, Classes.first}
use Rattle.tree_check.proofs.statements.top_after.Given as goal

abbrev pub invariant-loop-statement : goal.invariant-loop-statement
invariant-loop-statement l =
    first (map (λ top. top.word) (drop l.to_pass (tops (drop l.statement-index l.statements))))
    ≡ first (map (λ top. top.word) (drop l.count (tops l.statements)))
