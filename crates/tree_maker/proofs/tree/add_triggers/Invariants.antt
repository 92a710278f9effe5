use Rattle.std.proofs.Common.{◌≡◌, ◌++◌}
use Rattle.std.specs.List.{flat_map, range_with_len}
use Rattle.deck_reading.specs.Written.{statement_text}
use Rattle.tree_maker.specs.{Names.trigger_name, MadeDeck.unit_line}
use Rattle.tree_maker.proofs.tree.add_triggers.Given as goal

abbrev pub invariant-loop-trigger : goal.invariant-loop-trigger
invariant-loop-trigger l = l.text.items ≡ l.initial.text.items ++ flat_map
    (λ trigger. statement_text (unit_line (trigger_name trigger))) (range_with_len 0 l.trigger)
