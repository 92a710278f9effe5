-- The names of the made deck: a letter and a number, and of a unit of a group its letter behind them.
use Rattle.std.specs.Prelude.{ℕ, List, [], ◌∷◌, ◌++◌, codes, decimal}

-- `t`
abbrev pub top_name : List ℕ
top_name = codes "t"

-- `gI`, the gate of a group
abbrev pub gate_name : ℕ → List ℕ
gate_name group = codes "g" ++ decimal group

-- `fI`, the gate that triggers a unit of a group
abbrev pub fdep_name : ℕ → List ℕ
fdep_name group = codes "f" ++ decimal group

-- `xJ`, a unit that triggers others
abbrev pub trigger_name : ℕ → List ℕ
trigger_name trigger = codes "x" ++ decimal trigger

-- `uIa`, `uIb` and `uIc`, the units of a group
abbrev pub unit_name : ℕ → List ℕ → List ℕ
unit_name group letter = codes "u" ++ (decimal group ++ letter)

-- the names of the three units of a group
abbrev pub units_in : ℕ → List (List ℕ)
units_in group = unit_name group (codes "a") ∷ unit_name group (codes "b") ∷ unit_name group (codes "c") ∷ []
