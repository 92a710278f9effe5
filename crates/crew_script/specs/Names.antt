-- The names of a take.
use Rattle.std.specs.Prelude.{ℕ, Bool, ◌&&◌, nat_le, List, length}
use Rattle.deck_limits.specs.declared.TheConstants.{MOST_TAKEN}
use Rattle.fault_words.specs.Names.{all_differ}

-- the most names of a take
abbrev pub most_taken : ℕ
most_taken = MOST_TAKEN

-- different names, one or more, and no more than the most
abbrev pub are_taken : List (List ℕ) → Bool
are_taken names = nat_le 1 (length names) && nat_le (length names) most_taken && all_differ names
