-- One family more in votes.
use Rattle.std.specs.Prelude.{ℕ, ◌&&◌, ◌||◌, List, [], Contains}
use Rattle.unit_sets.specs.UnitList.{some_within}
use Rattle.zdd_families.specs.{Least.IsLeastFor, LeastNodes.IncludesNoneOf, Units.LiesBelow}
use Rattle.family_memory.specs.Memory.{Held, Has, IsSound}

-- the minimal sets of one family, and of the unions of sets of two others
abbrev pub IsJoined : List (List ℕ) → List (List ℕ) → List (List ℕ) → List (List ℕ) → Type 0
IsJoined voter same fewer least =
    IsLeastFor (λ within. some_within same within || (some_within fewer within && some_within voter within)) least

-- the voter lies below the others and lacks the empty set, and no set with one vote fewer includes one with as many
pub record IsBelow (voter same fewer : List (List ℕ)) : Type 0 where
  pub same_above : LiesBelow voter same
  pub fewer_above : LiesBelow voter fewer
  pub includes_none : IncludesNoneOf same fewer
  pub lacks : Contains voter [] → ⊥

-- a sound memory has the voter, and the votes of the others
pub record CanJoin (held : Held) (voter same fewer : ℕ) : Type 0 where
  pub sound : IsSound held
  pub has_voter : Has held voter
  pub has_same : Has held same
  pub has_fewer : Has held fewer
