-- What an operation does to a seat: what it knew stays, and what it fills and asks a full store for is due.
use Rattle.std.specs.Prelude.{◌≡◌, ℕ, ◌+◌, List, [], ◌∷◌, ◌++◌, Contains, length}
use Rattle.zdd_words.specs.Word.{level_of, lo_of, hi_of}
use Rattle.zdd_families.specs.Family.{IsAbove, branch}
use Rattle.zdd_families.specs.Map.{Knows, Grown, family}
use Rattle.zdd_shared_table.specs.Seats.{Seated, IsSoundSeat, map_of}

-- the family of a word: the sets of its lo, and those of its hi each with its level
abbrev pub word_family : (ℕ → ℕ) → ℕ → List (List ℕ)
word_family known word = branch (level_of word) (family known (lo_of word)) (family known (hi_of word))

-- the family has the sets of lo, and those of hi each with x
abbrev pub IsBranch : ℕ → List (List ℕ) → List (List ℕ) → List (List ℕ) → Type 0
IsBranch x lo hi family = family ≡ branch x lo hi

-- the map knows the reference as such a family
abbrev pub KnowsOne : (ℕ → ℕ) → ℕ → (List (List ℕ) → Type 0) → Type 0
KnowsOne known r is = Knows known r × is (family known r)

-- a sound seat knows both references
pub record KnowsBoth (seat : Seated) (a b : ℕ) : Type 0 where
  pub sound : IsSoundSeat seat
  pub first : Knows (map_of seat) a
  pub second : Knows (map_of seat) b

-- a sound seat knows the parts of a node, whose units are above x
pub record CanMake (seat : Seated) (x lo hi : ℕ) : Type 0 where
  pub sound : IsSoundSeat seat
  pub knows_lo : Knows (map_of seat) lo
  pub knows_hi : Knows (map_of seat) hi
  pub lo_above : IsAbove x (family (map_of seat) lo)
  pub hi_above : IsAbove x (family (map_of seat) hi)

-- each reference that the seat has filled in between has a family that is due
pub record FillsDue (due : List (List ℕ) → Type 0) (before after : Seated) : Type 0 where
  pub gained : List ℕ
  pub fills : after.fills ≡ before.fills ++ gained
  pub each : (r : ℕ) → Contains gained r → due (family (map_of after) r)

-- the seat has asked a full store in between for one word, whose family is due
pub record MissesDue (due : List (List ℕ) → Type 0) (before after : Seated) : Type 0 where
  pub word : ℕ
  pub missed : after.missed ≡ before.missed ++ word ∷ []
  pub is : due (word_family (map_of after) word)

-- the same of several searches: each word for which the seat has asked a full store in between has a family that is due
pub record MissesAll (due : List (List ℕ) → Type 0) (before after : Seated) : Type 0 where
  pub gained : List ℕ
  pub missed : after.missed ≡ before.missed ++ gained
  pub each : (word : ℕ) → Contains gained word → due (word_family (map_of after) word)

-- What an operation does to its seat, whatever its answer: the seat stays one of its store and keeps its share, knows
-- all that it knew, and fills only what is due.
pub record Went (due : List (List ℕ) → Type 0) (before after : Seated) : Type 0 where
  pub store : after.store ≡ before.store
  pub share : after.share ≡ before.share
  pub keeps : Grown (map_of before) (map_of after)
  pub sound : IsSoundSeat after
  pub fills : FillsDue due before after

-- the same, and no search found the store full
pub record WentOn (due : List (List ℕ) → Type 0) (before after : Seated) : Type 0 where
  pub went : Went due before after
  pub fulls : after.fulls ≡ before.fulls
  pub missed : after.missed ≡ before.missed

-- the operation gave a reference, which the seat then knows as such a family, and no search found the store full
pub record Gave (is due : List (List ℕ) → Type 0) (before after : Seated) (r : ℕ) : Type 0 where
  pub on : WentOn due before after
  pub known : KnowsOne (map_of after) r is

-- one search, for a word that is due, found every slot of the store filled with another word, and the operation ended
-- there
pub record WasFull (due : List (List ℕ) → Type 0) (before after : Seated) : Type 0 where
  pub went : Went due before after
  pub fulls : after.fulls ≡ before.fulls + 1
  pub missed : MissesDue due before after

-- What several searches do to a seat, whatever their answers: the seat stays one of its store, knows all that it knew,
-- fills only what is due, and counts each search that found the store full, for a word that is due.
pub record WentAll (due : List (List ℕ) → Type 0) (before after : Seated) : Type 0 where
  pub store : after.store ≡ before.store
  pub keeps : Grown (map_of before) (map_of after)
  pub sound : IsSoundSeat after
  pub fills : FillsDue due before after
  pub missed : MissesAll due before after
  pub fulls : after.fulls ≡ before.fulls + length missed.gained

-- all that a seat has filled and missed since it was split off is due
pub record CountsDue (due : List (List ℕ) → Type 0) (seat : Seated) : Type 0 where
  pub sound : IsSoundSeat seat
  pub fills : (r : ℕ) → Contains seat.fills r → due (family (map_of seat) r)
  pub missed : (word : ℕ) → Contains seat.missed word → due (word_family (map_of seat) word)
  pub fulls : seat.fulls ≡ length seat.missed

-- a seat has taken in another one, with all that it knew and has counted; of its share nothing is said here
pub record Joined (before other after : Seated) : Type 0 where
  pub store : after.store ≡ before.store
  pub keeps : Grown (map_of before) (map_of after)
  pub gains : Grown (map_of other) (map_of after)
  pub sound : IsSoundSeat after
  pub fills : after.fills ≡ before.fills ++ other.fills
  pub missed : after.missed ≡ before.missed ++ other.missed
  pub fulls : after.fulls ≡ before.fulls + other.fulls
