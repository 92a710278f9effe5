use Rattle.std.proofs.Common.{◌≡◌, ◌++◌}
use Rattle.std.specs.List.{flat_map, range_with_len}
use Rattle.tree_maker.specs.MadeDeck.{return_line}
use Rattle.tree_maker.proofs.crew.add_returns.Given as goal

abbrev pub invariant-loop-k : goal.invariant-loop-k
invariant-loop-k l = l.text.items ≡ l.initial.text.items ++ flat_map (return_line) (range_with_len 0 l.k)
