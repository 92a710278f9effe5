use Rattle.std.proofs.Common.{◌≡◌, drop, map, filter}
use Rattle.tree_check.specs.Classes.{first, is_replicated}
use Rattle.tree_check.proofs.statements.replication_among.Given as goal

abbrev pub invariant-loop-attribute : goal.invariant-loop-attribute
invariant-loop-attribute l =
    first (map (λ raw. raw.value_place) (filter is_replicated (drop l.attribute-index l.attributes)))
    ≡ first (map (λ raw. raw.value_place) (filter is_replicated l.attributes))
