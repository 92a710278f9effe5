-- How a run ends: what its output and its notes took, and its exit status.
use Rattle.std.specs.Prelude.{◌≡◌, ◌⊎◌, ℕ, List, Option}
use Rattle.std.specs.Io.KnownBytes.{Appends}
use Rattle.outage_engine.specs.Runs.{Writes, WritesFront}
use Rattle.picture_engine.specs.{Pictures.IsPictureFor, Refusals.HasCause, Refusals.refusal_line}
use Rattle.picture_engine.specs.{declared.refusal.Refusal.Refusal, declared.end.PictureEnd.PictureEnd}
use Rattle.picture_engine.specs.declared.refusal.Refusal.TheVariants as refusal
use Rattle.picture_engine.specs.declared.end.PictureEnd.TheVariants.{Done, Refused, WriteFault, NoMemory}

-- the exit status
abbrev pub refusal_code : Refusal → ℕ
refusal_code refusal.Usage = 2
refusal_code refusal.ReadFault = 3
refusal_code refusal.TooLong = 3
refusal_code (refusal.Fault fault) = 1
refusal_code refusal.ListLimit = 1
refusal_code (refusal.NoSuchCut number count) = 1

-- the exit status of a run: 0 with a picture, 1 to 3 with a refusal, 4 where the output failed, 5 for want of memory
abbrev pub code_of : PictureEnd → ℕ
code_of Done = 0
code_of (Refused refusal) = refusal_code refusal
code_of WriteFault = 4
code_of NoMemory = 5

-- a line was written to the notes, all of it or a front of it where they failed
abbrev pub Notes : {N : Type 0} → (N → Option (List ℕ)) → (N → ℕ) → N → N → List ℕ → Type 0
Notes taken faults old new line = Appends (taken old) (taken new) line ⊎ WritesFront taken faults old new line

-- a picture was written, or a front of it where the output failed
abbrev pub Tells : {K : Type 0} → (K → Option (List ℕ)) → (K → ℕ) → K → K → List ℕ → PictureEnd → Type 0
Tells taken faults old new text result =
    ((result ≡ Done) × Appends (taken old) (taken new) text)
    ⊎ ((result ≡ WriteFault) × WritesFront taken faults old new text)

-- ---- the clauses of a run

-- a text of the picture that the words and the input ask for was added to what the output took
abbrev pub WritesPicture : {K : Type 0} → List (List ℕ) → Option (List ℕ) → Option (List ℕ) → (K → Option (List ℕ))
    → K → K → PictureEnd → Type 0
WritesPicture words held left taken old new result =
    result ≡ Done → Writes taken old new (IsPictureFor words held left)

-- a front of such a text was, where the output failed
abbrev pub WritesPictureFront : {K : Type 0} → List (List ℕ) → Option (List ℕ) → Option (List ℕ)
    → (K → Option (List ℕ)) → (K → ℕ) → K → K → PictureEnd → Type 0
WritesPictureFront words held left taken faults old new result =
    result ≡ WriteFault → (text : List ℕ) × IsPictureFor words held left text × WritesFront taken faults old new text

-- each refusal has its cause, and leaves the output as it is; its line goes to the notes
pub record Refuses {K N : Type 0} (words : List (List ℕ)) (held left : Option (List ℕ)) (rose : Type 0)
    (taken : N → Option (List ℕ)) (faults : N → ℕ) (old new : K) (notes noted : N) (refusal : Refusal) : Type 0 where
  pub cause : HasCause words held left rose refusal
  pub silent : new ≡ old
  pub line : Notes taken faults notes noted (refusal_line refusal)
