-- Node words: a level, and the references of lo and hi with 26 bits each.
use Rattle.std.specs.Prelude.{ℕ, ◌+◌, ◌-◌, ◌*◌, ◌/◌, ◌%◌, ◌^◌}

-- the word of a level, a lo and a hi
unfoldable pub packed : ℕ → ℕ → ℕ → ℕ
packed level lo hi = level * 2 ^ 52 + lo * 2 ^ 26 + hi

-- the level of a word
unfoldable pub level_of : ℕ → ℕ
level_of word = word / 2 ^ 52

-- the reference lo of a word
unfoldable pub lo_of : ℕ → ℕ
lo_of word = word / 2 ^ 26 % 2 ^ 26

-- the reference hi of a word
unfoldable pub hi_of : ℕ → ℕ
hi_of word = word % 2 ^ 26

-- the slot at which the search for a word begins, in a table of 2 ^ bits slots
unfoldable pub home_of : ℕ → ℕ → ℕ
home_of word bits = ((word * 11400714819323198485) % 2 ^ 64) / 2 ^ (64 - bits)
