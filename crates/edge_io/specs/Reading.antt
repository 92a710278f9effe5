-- What a source gives, read after read.
use Rattle.std.specs.Prelude.{ℕ, Option, ◌<◌, ◌≤◌, List, [], ◌++◌, length, take, None, Some, ⊤, Result, Ok, Err}
use Rattle.edge_io.specs.{declared.reading.ReadEnd.ReadEnd, declared.reading.TheConstants.INPUT_LIMIT}
use Rattle.edge_io.specs.declared.reading.ReadEnd.TheVariants.{ReadFault, TooLong, NoMemory}

-- what one read gave: the front of its buffer that it filled, or nothing where it failed
abbrev pub given : {E : Type 0} → Result ℕ E → List ℕ → Option (List ℕ)
given (Ok n) into = Some (take n into)
given (Err _) into = None

-- a fact about what was held before and is held after. Of a source that tells nothing (None) it says nothing; one that
-- tells goes on telling
abbrev pub IfTold : Option (List ℕ) → Option (List ℕ) → (List ℕ → List ℕ → Type 0) → Type 0
IfTold None after P = ⊤
IfTold (Some before) None P = ⊥
IfTold (Some before) (Some after) P = P before after

-- reads one after another that gave these bytes: each had room and gave at least one byte
pub data Reads {S : Type 0} (reads : S → ℕ → Option (List ℕ) → S → Type 0) (from : S) : List ℕ → S → Type 0 where
  unread : Reads reads from [] from
  read_more : (bytes piece : List ℕ) (mid new : S) (room : ℕ) → Reads reads from bytes mid → 0 < length piece
      → reads mid room (Some piece) new → Reads reads from (bytes ++ piece) new

-- what reading to the end of the input did: reads that each gave bytes, and then why it stopped. It ends at its first
-- read that fails, and at the end of the input only after a read that had room
abbrev pub ReadsAll : {S : Type 0} → (S → ℕ → Option (List ℕ) → S → Type 0) → S → Result (List ℕ) ReadEnd → S → Type 0
ReadsAll {S} reads old (Ok bytes) new =
    (mid : S) × (room : ℕ) × Reads reads old bytes mid × (0 < room) × reads mid room (Some []) new
ReadsAll {S} reads old (Err ReadFault) new =
    (bytes : List ℕ) × (mid : S) × (room : ℕ) × Reads reads old bytes mid × (0 < room) × reads mid room None new
ReadsAll {S} reads old (Err TooLong) new = (bytes : List ℕ) × Reads reads old bytes new × (INPUT_LIMIT < length bytes)
ReadsAll {S} reads old (Err NoMemory) new = (bytes : List ℕ) × Reads reads old bytes new × (length bytes ≤ INPUT_LIMIT)
