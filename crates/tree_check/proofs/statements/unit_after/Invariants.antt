use Rattle.std.proofs.Common.{◌≡◌, drop, map}
use Rattle.tree_check.specs.{Said.basics, Classes.first}
use Rattle.tree_check.proofs.statements.unit_after.Given as goal

abbrev pub invariant-loop-statement : goal.invariant-loop-statement
invariant-loop-statement l =
    first (map (λ basic. basic.name.place) (drop l.to_pass (basics (drop l.statement-index l.statements))))
    ≡ first (map (λ basic. basic.name.place) (drop l.count (basics l.statements)))
