-- What follows from the definitions of `specs/Count`.
use Rattle.std.specs.Prelude.{ℕ, ◌≤◌}
use Rattle.std.proofs.Common.{inl, inr, arith}
use Rattle.std.proofs.lemmas.Bool.{cases_lt}
use Rattle.event_counts.specs.Count.{Rose, last_count, next_count}

-- a count that rose since later rose since before
pub Rose-later : (old mid : ℕ) {new : ℕ} → old ≤ mid → Rose mid new → Rose old new
Rose-later old mid below rose = elim rose [ inl more ↦ inl (omega arith) | inr last ↦ inr last ]

-- one more event is a rise
pub Rose-next : (n : ℕ) → Rose n (next_count n)
Rose-next n =
    elim (cases_lt n (next_count n)) [
      | inl more ↦ inl more
      | inr not_more ↦ inr (omega arith)
    ]

-- a count doesn't fall by one more event
pub next_count-steady : (n : ℕ) → n ≤ last_count → n ≤ next_count n
next_count-steady n few = omega arith

-- and it stays within its last value
pub next_count-fits : (n : ℕ) → next_count n ≤ last_count
next_count-fits n = omega arith
