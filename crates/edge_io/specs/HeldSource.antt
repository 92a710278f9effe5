-- A source in memory, call after call.
use Rattle.std.specs.Prelude.{◌≡◌, ℕ, Option, min, List, length, take, drop, None, Some, if◌then◌else◌}
use Rattle.event_counts.specs.Count.{next_count}
use Rattle.edge_io.specs.Faults.{is_listed}

-- the bytes still to come, how many at most come at a call, the numbers of the calls that fail,
-- and how many calls and faults there were
pub record Held : Type 0 where
  pub bytes : List ℕ
  pub most : ℕ
  pub failing : List ℕ
  pub calls : ℕ
  pub faults : ℕ

-- how many bytes a read with this room gives
abbrev pub count_of : Held → ℕ → ℕ
count_of s room = min (min (length s.bytes) room) s.most

-- the source after a read with this room that does not fail
abbrev pub given_on : Held → ℕ → Held
given_on s room = record s { bytes = drop (count_of s room) s.bytes; calls = next_count s.calls }

-- the source after a read that fails
abbrev pub failed_on : Held → Held
failed_on s = record s { calls = next_count s.calls; faults = next_count s.faults }

-- what a read with this room gives: nothing where the call is listed, else the bytes next to come
abbrev pub HeldReads : Held → ℕ → Option (List ℕ) → Held → Type 0
HeldReads old room answer new =
    (answer ≡ (if is_listed old.failing old.calls then None else Some (take (count_of old room) old.bytes)))
    × (new ≡ (if is_listed old.failing old.calls then failed_on old else given_on old room))
