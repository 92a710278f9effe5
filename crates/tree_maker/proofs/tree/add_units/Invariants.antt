use Rattle.std.proofs.Common.{◌≡◌, ◌++◌}
use Rattle.std.specs.List.{flat_map, range_with_len}
use Rattle.deck_reading.specs.Written.{statement_text}
use Rattle.tree_maker.specs.{Names.units_in, MadeDeck.unit_line}
use Rattle.tree_maker.proofs.tree.add_units.Given as goal

abbrev pub invariant-loop-group : goal.invariant-loop-group
invariant-loop-group l = l.text.items ≡ l.initial.text.items ++ flat_map
    (λ group. flat_map (λ name. statement_text (unit_line name)) (units_in group)) (range_with_len 0 l.group)
