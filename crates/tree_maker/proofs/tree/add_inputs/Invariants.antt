use Rattle.std.proofs.Common.{◌≡◌, ◌++◌}
use Rattle.std.specs.List.{flat_map, range_with_len}
use Rattle.deck_reading.specs.Written.{Bare, input_text}
use Rattle.tree_maker.specs.Names.{gate_name}
use Rattle.tree_maker.proofs.tree.add_inputs.Given as goal

abbrev pub invariant-loop-group : goal.invariant-loop-group
invariant-loop-group l = l.text.items ≡ l.initial.text.items ++ flat_map (λ group. input_text (Bare (gate_name group)))
    (range_with_len 0 l.group)
