-- What a run did, as one of its three ends: it found no memory, it refused, or it told a picture.
use Rattle.std.specs.Prelude.{◌≡◌, ℕ, List, Option}
use Rattle.picture_engine.specs.{Ends.Refuses, Ends.Tells, Pictures.IsPictureFor, declared.refusal.Refusal.Refusal}
use Rattle.picture_engine.specs.{declared.end.PictureEnd.PictureEnd, declared.end.PictureEnd.TheVariants.NoMemory}
use Rattle.picture_engine.specs.{declared.end.PictureEnd.TheVariants.Refused}

-- A run wrote nothing for want of memory; or it refused for a cause, and wrote its line to the notes alone; or it wrote
-- the picture that was asked for to the output alone. Where the writing failed it was a front of the line or picture.
pub data Runs {K N : Type 0} (words : List (List ℕ)) (held left : Option (List ℕ)) (rose : Type 0)
    (taken : K → Option (List ℕ)) (faults : K → ℕ) (noted : N → Option (List ℕ)) (note_faults : N → ℕ)
    (old new : K) (notes after : N) (result : PictureEnd) : Type 0 where
  no_memory : result ≡ NoMemory → new ≡ old → after ≡ notes
      → Runs words held left rose taken faults noted note_faults old new notes after result
  refused : (refusal : Refusal) → result ≡ Refused refusal
      → Refuses words held left rose noted note_faults old new notes after refusal
      → Runs words held left rose taken faults noted note_faults old new notes after result
  told : (text : List ℕ) → IsPictureFor words held left text → Tells taken faults old new text result
      → after ≡ notes → Runs words held left rose taken faults noted note_faults old new notes after result
