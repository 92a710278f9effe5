-- Where a byte stands in the text.
use Rattle.std.specs.Prelude.{◌≡◌, ◌⊎◌, ℕ, ◌+◌, ◌-◌, ◌≤◌, ◌==◌, if◌then◌else◌, List, [], ◌∷◌, ◌++◌, length}
use Rattle.galileo_lexer.specs.{declared.spot.Spot.Spot, declared.token.LexPlace.LexPlace}

-- the first byte's
abbrev pub origin : Spot
origin = record { offset = 0; line = 1; line_start = 0 }

-- the same line, at another offset
abbrev pub along : Spot → ℕ → Spot
along spot offset = record spot { offset = offset }

-- behind a byte: a line feed ends the line
abbrev pub step : Spot → ℕ → Spot
step spot byte =
    if byte == 10 then record { offset = spot.offset + 1; line = spot.line + 1; line_start = spot.offset + 1 }
    else along spot (spot.offset + 1)

-- behind these bytes
abbrev pub walk : Spot → List ℕ → Spot
walk spot [] = spot
walk spot (byte ∷ bytes) = walk (step spot byte) bytes

-- a spot's line, and its column, which counts from 1 on
abbrev pub place_of : Spot → LexPlace
place_of spot = record { line = spot.line; column = (spot.offset - spot.line_start) + 1 }

-- the place behind some bytes at the start of a text
abbrev pub place_behind : List ℕ → LexPlace
place_behind bytes = place_of (walk origin bytes)

-- how many line feeds there are
abbrev pub line_feeds : List ℕ → ℕ
line_feeds [] = 0
line_feeds (byte ∷ bytes) = (if byte == 10 then 1 else 0) + line_feeds bytes

-- the bytes behind the last line feed, or all where there is none
pub record IsLastLine (bytes line : List ℕ) : Type 0 where
  pub earlier : List ℕ
  pub parts : bytes ≡ earlier ++ line
  pub unbroken : line_feeds line ≡ 0
  pub begins : (earlier ≡ []) ⊎ ((lines : List ℕ) × (earlier ≡ lines ++ 10 ∷ []))

-- the spot lies in the text or at its end
pub record IsSpot (spot : Spot) (text : List ℕ) : Type 0 where
  pub in_text : spot.offset ≤ length text
  pub line : spot.line ≤ spot.offset + 1
  pub line_start : spot.line_start ≤ spot.offset
