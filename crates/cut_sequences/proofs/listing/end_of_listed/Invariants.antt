use Rattle.std.proofs.Common.{◌≤◌, ◌<◌, ◌-◌, List, ℕ, All, drop, length}
use Rattle.cut_sequences.proofs.listing.end_of_listed.Given as goal

abbrev pub invariant-loop-low : goal.invariant-loop-low
invariant-loop-low l = record {
  order : l.low ≤ l.high;
  within : l.high ≤ length l.cuts;
  larger : All (λ (cut : List ℕ). l.most < length cut) (drop l.high l.cuts);
}

abbrev pub decreases-loop-low : goal.decreases-loop-low
decreases-loop-low l = l.high - l.low
