-- What holds of the numbers of nodes one after another.
use Rattle.std.specs.Prelude.{◌≡◌, ℕ, ◌+◌, ◌<◌, ◌≤◌}
use Rattle.std.proofs.Common.{inl, inr, subst, arith}
use Rattle.std.proofs.lemmas.Bool.{cases_lt}

-- what holds of the numbers above one up to another
abbrev pub NamedUpTo : (ℕ → Type 0) → ℕ → ℕ → Type 0
NamedUpTo P from last = (n : ℕ) → from < n → n ≤ last → P n

pub none_named : (P : ℕ → Type 0) (from : ℕ) → NamedUpTo P from (from + 0)
none_named P from n above within = absurd (omega arith)

pub one_more_named : (P : ℕ → Type 0) (from i number : ℕ) → number ≡ from + 1 + i → NamedUpTo P from (from + i)
    → P number → NamedUpTo P from (from + (i + 1))
one_more_named P from i number is named here n above within = elim (cases_lt (from + i) n) [
  | inl last ↦ let same : number ≡ n = omega arith in subst P same here
  | inr earlier ↦ named n above earlier
]

pub all_named : (P : ℕ → Type 0) (from count i : ℕ) → count ≤ i → NamedUpTo P from (from + i) → (n : ℕ) → (from < n)
    × (n ≤ from + count) → P n
all_named P from count i whole named n (above, within) = named n above (omega arith)
