-- A sink in memory, call after call.
use Rattle.std.specs.Prelude.{◌≡◌, ℕ, Option, ◌-◌, min, List, length, take, ◌++◌, None, Some, Bool, ◌&&◌, ◌||◌, not}
use Rattle.std.specs.Prelude.{nat_lt, ◌==◌, if◌then◌else◌}
use Rattle.event_counts.specs.Count.{next_count}
use Rattle.edge_io.specs.Faults.{is_listed}

-- the bytes taken, how many fit in all, the numbers of the calls that fail, and how many calls and faults there were
pub record Kept : Type 0 where
  pub bytes : List ℕ
  pub room : ℕ
  pub failing : List ℕ
  pub calls : ℕ
  pub faults : ℕ

-- how many bytes of a piece fit
abbrev pub fitting : Kept → List ℕ → ℕ
fitting s piece = min (length piece) (s.room - length s.bytes)

-- a write of this piece fails: its call is listed, or none of its bytes fits
abbrev pub is_refused : Kept → List ℕ → Bool
is_refused s piece = is_listed s.failing s.calls || (nat_lt 0 (length piece) && fitting s piece == 0)

-- the sink after a write that takes what fits of a piece
abbrev pub taken_on : Kept → List ℕ → Kept
taken_on s piece = record s { bytes = s.bytes ++ take (fitting s piece) piece; calls = next_count s.calls }

-- the sink after a call that fails
abbrev pub refused_on : Kept → Kept
refused_on s = record s { calls = next_count s.calls; faults = next_count s.faults }

-- what a write of a piece does
abbrev pub KeptWrites : Kept → List ℕ → Option ℕ → Kept → Type 0
KeptWrites old piece answer new =
    (answer ≡ (if is_refused old piece then None else Some (fitting old piece)))
    × (new ≡ (if is_refused old piece then refused_on old else taken_on old piece))

-- what a flush does
abbrev pub KeptFlushes : Kept → Bool → Kept → Type 0
KeptFlushes old answer new =
    (answer ≡ not (is_listed old.failing old.calls))
    × (new ≡ (if is_listed old.failing old.calls then refused_on old else record old { calls = next_count old.calls }))
