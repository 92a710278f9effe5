-- The number of a cut set that is said is not 0.
use Rattle.std.proofs.Common.{◌≡◌, ℕ, ◌≤◌, List, Some}
use Rattle.deck_limits.specs.declared.TheConstants.{HIGHEST_CUT}
use Rattle.board_words.specs.Number.{number_within}
use Rattle.board_words.proofs.Numerals.{says}

pub at_least_one : (word : List ℕ) (number : ℕ) → number_within 1 HIGHEST_CUT word ≡ Some number → 1 ≤ number
at_least_one word number is = (says 1 HIGHEST_CUT word number is).low
