-- What a sink takes, write after write.
use Rattle.std.specs.Prelude.{◌≡◌, ℕ, ◌<◌, ◌⊎◌, Option, List, [], ◌++◌, drop, None, Some, Bool, true, false, Result, Ok}
use Rattle.std.specs.Prelude.{Err}
use Rattle.std.specs.Io.KnownBytes.{Appends}

-- writes one after another, each of all that was left of these bytes, up to a rest: each took at least one byte
pub data Writes {K : Type 0} (writes : K → List ℕ → Option ℕ → K → Type 0) (old : K) (bytes : List ℕ) : List ℕ → K
    → Type 0 where
  unwritten : Writes writes old bytes bytes old
  write_more : (left : List ℕ) (mid new : K) (n : ℕ) → Writes writes old bytes left mid → 0 < n
      → writes mid left (Some n) new → Writes writes old bytes (drop n left) new

-- a sink took a front of these bytes, and this is left
pub record TakesFront {K : Type 0} (taken : K → Option (List ℕ)) (old new : K) (bytes left : List ℕ) : Type 0 where
  pub front : List ℕ
  pub split : bytes ≡ front ++ left
  pub added : Appends (taken old) (taken new) front

-- what writing all of these bytes did: writes up to the end, or up to one that failed or took nothing
abbrev pub WritesAll : {K W : Type 0} → (K → List ℕ → Option ℕ → K → Type 0) → K → List ℕ → Result (Unit {0}) W → K
    → Type 0
WritesAll writes old bytes (Ok _) new = Writes writes old bytes [] new
WritesAll {K} writes old bytes (Err _) new =
    (left : List ℕ) × (mid : K) × Writes writes old bytes left mid
    × (writes mid left None new ⊎ writes mid left (Some 0) new)

-- what finishing did: all of these bytes were written, and then one flush was made; or a write failed, and none was
abbrev pub Finishes : {K W : Type 0} → (K → List ℕ → Option ℕ → K → Type 0) → (K → Bool → K → Type 0) → K → List ℕ
    → Result (Unit {0}) W → K → Type 0
Finishes {K} writes flushes old bytes (Ok _) new = (mid : K) × Writes writes old bytes [] mid × flushes mid true new
Finishes {K} writes flushes old bytes (Err e) new =
    ((mid : K) × Writes writes old bytes [] mid × flushes mid false new) ⊎ WritesAll writes old bytes (Err e) new
