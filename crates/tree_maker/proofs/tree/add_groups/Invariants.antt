use Rattle.std.proofs.Common.{◌≡◌, ◌++◌}
use Rattle.std.specs.List.{flat_map, range_with_len}
use Rattle.deck_reading.specs.Written.{statement_text}
use Rattle.tree_maker.specs.MadeDeck.{group_gate}
use Rattle.tree_maker.proofs.tree.add_groups.Given as goal

abbrev pub invariant-loop-group : goal.invariant-loop-group
invariant-loop-group l = l.text.items ≡ l.initial.text.items ++ flat_map
    (λ group. statement_text (group_gate l.number group)) (range_with_len 0 l.group)
