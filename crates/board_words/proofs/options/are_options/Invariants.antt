use Rattle.std.proofs.Common.{◌≡◌, length, map}
use Rattle.board_words.specs.Options.{are_options}
use Rattle.board_words.proofs.options.are_options.Given as goal

abbrev pub invariant-loop-rest : goal.invariant-loop-rest
invariant-loop-rest l =
    are_options (map (λ word. word.now) l.known) l.rest ≡ are_options (map (λ word. word.now) l.known) l.words

abbrev pub decreases-loop-rest : goal.decreases-loop-rest
decreases-loop-rest l = length l.rest
