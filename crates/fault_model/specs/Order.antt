-- An order of units, each once.
use Rattle.std.specs.Prelude.{◌≢◌, ℕ, List, AllPairs}

-- no unit stands twice
abbrev pub AreDistinct : List ℕ → Type 0
AreDistinct units = AllPairs (λ earlier later. earlier ≢ later) units
