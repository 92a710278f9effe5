-- References by their numbers.
use Rattle.std.specs.Prelude.{ℕ, ◌<◌, ◌^◌}

-- a number that a reference can have
abbrev pub IsReference : ℕ → Type 0
IsReference number = number < 2 ^ 26
