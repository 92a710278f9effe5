-- The form of names and bare names, after the Galileo manual.
use Rattle.std.specs.Prelude.{ℕ, Bool, false, not, ◌==◌, ◌&&◌, ◌||◌, nat_le, List, [], ◌∷◌, length}
use Rattle.std.specs.{List.list_all, Char.is_ascii_alphabetic, Char.is_ascii_alphanumeric}
use Rattle.deck_limits.specs.declared.TheConstants.{LONGEST_NAME}

-- printable ASCII other than the quotation mark
abbrev pub is_name_byte : ℕ → Bool
is_name_byte byte = nat_le 32 byte && nat_le byte 126 && not (byte == 34)

-- a name has 1 to 255 such bytes
abbrev pub is_name : List ℕ → Bool
is_name bytes = nat_le 1 (length bytes) && nat_le (length bytes) LONGEST_NAME && list_all is_name_byte bytes

-- a letter, a digit, `_`, `-` or `.`
abbrev pub is_bare_byte : ℕ → Bool
is_bare_byte byte = is_ascii_alphanumeric byte || byte == 95 || byte == 45 || byte == 46

-- a letter or `_`
abbrev pub is_bare_start : ℕ → Bool
is_bare_start byte = is_ascii_alphabetic byte || byte == 95

-- a bare name begins with a letter or `_` and goes on with letters, digits, `_`, `-` and `.`
abbrev pub is_bare_name : List ℕ → Bool
is_bare_name [] = false
is_bare_name (first ∷ rest) = is_bare_start first && list_all is_bare_byte rest
