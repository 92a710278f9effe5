use Rattle.std.proofs.Common.{◌≡◌, ℕ, ◌<◌, [], false, get_or}
use Rattle.path_sets.specs.Paths.{is_whole}
use Rattle.path_sets.proofs.whole.whole_path.Given as goal

abbrev pub invariant-loop-i : goal.invariant-loop-i
invariant-loop-i l = record {
  before : (k : ℕ) → k < l.i → is_whole l.out (get_or l.paths k []) ≡ false;
}
