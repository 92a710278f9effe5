-- Families in which no set includes another.
use Rattle.std.specs.Prelude.{ℕ, List}
use Rattle.zdd_families.specs.Minimal.{IsMinimal}

-- its minimal sets are all of its sets
abbrev pub IsAntichain : List (List ℕ) → Type 0
IsAntichain f = IsMinimal f f
