-- The lines of a text, one by one.
use Rattle.std.proofs.Common.{◌≡◌, ℕ, ◌+◌, ◌≤◌, List, [], ◌∷◌, length, refl, arith, Bool, true, false, cond}
use Rattle.std.specs.List.{position_or_len, onto_first}
use Rattle.std.proofs.lemmas.List.Splits.{slice_split_none, length-slice_split}
use Rattle.std.proofs.lemmas.List.Sums.{fails_before_first, count_by-le-length}
use Rattle.crew_script.specs.{Deck.is_feed, Deck.lines_of, Divides.size_of}

-- a text without a line feed is a line
pub line_whole : (bytes : List ℕ) → length bytes ≤ position_or_len is_feed bytes → lines_of bytes ≡ bytes ∷ []
line_whole bytes none =
    slice_split_none is_feed bytes (λ k d short. fails_before_first is_feed bytes k d (omega (arith, none, short)))

-- a text has at most one line more than bytes
pub few_lines : (bytes : List ℕ) → length (lines_of bytes) ≤ length bytes + 1
few_lines bytes = omega (arith, length-slice_split is_feed bytes, count_by-le-length is_feed bytes)

one_byte_more : (byte : ℕ) (lines : List (List ℕ)) (size : ℕ) (b : Bool) → size_of lines ≡ size + 1
    → size_of (cond b ([] ∷ lines) (onto_first byte lines)) ≡ size + 2
one_byte_more byte lines size true is = omega (arith, is)
one_byte_more byte [] size false is = absurd (omega (arith, is))
one_byte_more byte (line ∷ lines) size false is = omega (arith, is)

-- its lines, each with a line feed, have one byte more than the text
pub lines_sized : (bytes : List ℕ) → size_of (lines_of bytes) ≡ length bytes + 1
lines_sized [] = refl
lines_sized (byte ∷ bytes) =
    omega (arith, one_byte_more byte (lines_of bytes) (length bytes) (is_feed byte) (lines_sized bytes))
