-- The classes of bytes.
use Rattle.std.specs.Prelude.{ℕ, Bool, ◌&&◌, ◌||◌, ◌==◌, not, nat_le, false, List, [], ◌∷◌}
use Rattle.std.specs.Char.{is_ascii_alphanumeric}

-- tab to carriage return, and the blank
unfoldable pub is_blank : ℕ → Bool
is_blank byte = (nat_le 9 byte && nat_le byte 13) || byte == 32

-- ASCII letters, digits, `_`, `-`, `.` and `+`
unfoldable pub is_word_byte : ℕ → Bool
is_word_byte byte = is_ascii_alphanumeric byte || byte == 95 || byte == 45 || byte == 46 || byte == 43

-- what may stand between quotes: 32 to 126, and no quote
unfoldable pub is_quotable : ℕ → Bool
is_quotable byte = (nat_le 32 byte && nat_le byte 126) && not (byte == 34)

-- the first byte passes the test
abbrev pub begins_with : (ℕ → Bool) → List ℕ → Bool
begins_with test [] = false
begins_with test (byte ∷ bytes) = test byte
