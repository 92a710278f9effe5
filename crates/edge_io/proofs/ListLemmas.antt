-- Lists that are taken from the front, piece by piece.
use Rattle.std.proofs.Common.{◌≡◌, ℕ, ◌+◌, List, ◌++◌, length, take, drop, take-append-drop, arith}
use Rattle.std.proofs.lemmas.Grind.{common_steps}

-- a buffer whose front was filled with the next n of a list, and the list behind them
pub filled-front : (bytes into : List ℕ) {copied : List ℕ} (at : ℕ) {n : ℕ} → copied ≡ take n (drop at bytes)
    → length copied ≡ n
    → drop at bytes ≡ take n (copied ++ drop n into) ++ drop (at + n) bytes
filled-front bytes into at {n} e l = grind (arith, common_steps, take-append-drop n (drop at bytes))
