-- Which calls fail. Counts of faults and of calls stop at the last value of a `u64`.
use Rattle.std.specs.Prelude.{ℕ, Bool, ◌&&◌, nat_lt, ◌==◌, List}
use Rattle.std.specs.List.{list_any}
use Rattle.event_counts.specs.Count.{last_count}

-- a call fails if the list has its number. The count stays at its last value, so a call of that number never does
abbrev pub is_listed : List ℕ → ℕ → Bool
is_listed failing call = nat_lt call last_count && list_any (λ n. n == call) failing
