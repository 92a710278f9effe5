use Rattle.std.proofs.Common.{◌≡◌, ◌++◌}
use Rattle.std.specs.List.{flat_map, range_with_len}
use Rattle.deck_reading.specs.Written.{statement_text}
use Rattle.tree_maker.specs.MadeDeck.{fdep_gate}
use Rattle.tree_maker.proofs.tree.add_fdeps.Given as goal

abbrev pub invariant-loop-q : goal.invariant-loop-q
invariant-loop-q l = l.text.items ≡ l.initial.text.items ++ flat_map (λ q. statement_text (fdep_gate q))
    (range_with_len 0 l.q)
