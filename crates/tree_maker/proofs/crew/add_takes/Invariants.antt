use Rattle.std.proofs.Common.{◌≡◌, ◌++◌}
use Rattle.std.specs.List.{flat_map, range_with_len}
use Rattle.tree_maker.specs.{Names.units_in, MadeDeck.take_line}
use Rattle.tree_maker.proofs.crew.add_takes.Given as goal

abbrev pub invariant-loop-group : goal.invariant-loop-group
invariant-loop-group l = l.text.items ≡ l.initial.text.items ++ flat_map (λ group. flat_map take_line (units_in group))
    (range_with_len 0 l.group)
