-- Pieces that are taken off the end.
use Rattle.std.specs.Prelude.{◌≡◌, ℕ, ◌<◌, ◌≤◌, List, length, take, slice_index}

pub record Shortened (old new : List ℕ) (at : ℕ) : Type 0 where
  pub front : new ≡ take (length new) old
  pub shorter : length new ≤ length old
  pub dropped : (c : ℕ) → length new ≤ c → c < length old → at < slice_index old c
