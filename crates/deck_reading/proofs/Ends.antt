-- The place at the end of a text, found line by line.
use Rattle.std.specs.Prelude.{ℕ}
use Rattle.galileo_lexer.specs.declared.spot.Spot.{Spot}

-- at an offset, on a line that begins there
abbrev pub spot_at : ℕ → ℕ → ℕ → Spot
spot_at offset line start = record { offset = offset; line = line; line_start = start }
