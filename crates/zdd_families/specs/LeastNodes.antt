-- Nodes over minimal families: when a branch is an antichain, what its parts are, and what is left of one.
use Rattle.std.specs.Prelude.{◌≡◌, ℕ, false, List, Contains}
use Rattle.zdd_families.specs.Inclusion.{includes_one}

-- no set of hi includes a set of lo
abbrev pub IncludesNoneOf : List (List ℕ) → List (List ℕ) → Type 0
IncludesNoneOf lo hi = (set : List ℕ) → Contains hi set → includes_one lo set ≡ false
