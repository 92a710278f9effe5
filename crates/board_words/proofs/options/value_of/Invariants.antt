use Rattle.std.proofs.Common.{◌≡◌, length}
use Rattle.board_words.specs.Options.{value_of}
use Rattle.board_words.proofs.options.value_of.Given as goal

abbrev pub invariant-loop-left : goal.invariant-loop-left
invariant-loop-left l = value_of l.option l.left ≡ value_of l.option l.words

abbrev pub decreases-loop-left : goal.decreases-loop-left
decreases-loop-left l = length l.left
