-- What a call that makes a node answers, and what the seat knows and counts after it.
use Rattle.std.specs.Prelude.{◌≡◌, ℕ, ◌+◌, ◌⊎◌, [], ◌∷◌, ◌++◌, Result, IfOk, IfErr, MatchResult}
use Rattle.zdd_families.specs.{Family.branch, Map.KnowsAs, Map.family}
use Rattle.zdd_shared_table.specs.Seats.{Seated, map_of}

-- the answer is known as the sets of lo, and those of hi each with the level added
abbrev pub KnowsBranch : {E : Type 0} → ℕ → ℕ → ℕ → Result ℕ E → Seated → Seated → Type 0
KnowsBranch level lo hi answer old new =
    IfOk answer (λ r. KnowsAs (map_of new) r (branch level (family (map_of old) lo) (family (map_of old) hi)))

-- the seat knows the word of the answer beside what it knew, and nothing more without an answer
abbrev pub LearnsWord : {E : Type 0} → ℕ → Result ℕ E → Seated → Seated → Type 0
LearnsWord word answer old new =
    MatchResult answer (λ r. new.known ≡ old.known ++ (r, word) ∷ []) (λ _. new.known ≡ old.known)

-- a refused search is counted, and no other is
abbrev pub CountsRefused : {E : Type 0} → Result ℕ E → Seated → Seated → Type 0
CountsRefused answer old new = MatchResult answer (λ _. new.fulls ≡ old.fulls) (λ _. new.fulls ≡ old.fulls + 1)

-- the word of a refused search is noted, and no other is
abbrev pub NotesRefused : {E : Type 0} → ℕ → Result ℕ E → Seated → Seated → Type 0
NotesRefused word answer old new =
    MatchResult answer (λ _. new.missed ≡ old.missed) (λ _. new.missed ≡ old.missed ++ word ∷ [])

-- a refused search for the word passed so many slots
abbrev pub PassesSlots : {E : Type 0} → ℕ → ℕ → Result ℕ E → Seated → Type 0
PassesSlots slots word answer new = IfErr answer (λ _. new.probe ≡ record { word = word; passed = slots })

-- the answer's slot was filled by this call or was filled before, and without an answer no slot is filled
abbrev pub FillsAtMostOne : {E : Type 0} → Result ℕ E → Seated → Seated → Type 0
FillsAtMostOne answer old new =
    MatchResult answer (λ r. (new.fills ≡ old.fills) ⊎ (new.fills ≡ old.fills ++ r ∷ [])) (λ _. new.fills ≡ old.fills)
