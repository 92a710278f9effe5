-- Two references cut at the least unit of both.
use Rattle.std.specs.Prelude.{◌≡◌, ◌⊎◌, ℕ, ◌<◌, List, []}
use Rattle.unit_sets.specs.Unit.{IsUnit}
use Rattle.zdd_families.specs.{Family.IsAbove, Due.Splits}
use Rattle.zdd_families.specs.Map.{Knows, family, level_in}
use Rattle.zdd_product.specs.{declared.halves.Half.Half, declared.halves.Halves.Halves, declared.halves.Split.Split}
use Rattle.zdd_shared_table.specs.Seats.{Seated, IsSoundSeat, map_of}

-- a family of units above x is its own lo, and its hi has no sets
pub record IsHigher (x : ℕ) (f lo hi : List (List ℕ)) : Type 0 where
  pub above : IsAbove x f
  pub lo_is : lo ≡ f
  pub hi_is : hi ≡ []

-- x is the least unit of f, which is split at it, or below all its units
abbrev pub IsHalved : ℕ → List (List ℕ) → List (List ℕ) → List (List ℕ) → Type 0
IsHalved x f lo hi = Splits x f lo hi ⊎ IsHigher x f lo hi

-- the half of a reference: references of greater levels
pub record IsHalf (known : ℕ → ℕ) (x r : ℕ) (half : Half) : Type 0 where
  pub knows_lo : Knows known half.lo
  pub knows_hi : Knows known half.hi
  pub lo_above : x < level_in known half.lo
  pub hi_above : x < level_in known half.hi
  pub halved : IsHalved x (family known r) (family known half.lo) (family known half.hi)

-- the reference is split at its level
pub record IsSplit (known : ℕ → ℕ) (x r : ℕ) (half : Half) : Type 0 where
  pub level : level_in known r ≡ x
  pub splits : Splits x (family known r) (family known half.lo) (family known half.hi)

-- the halves of two references at the least unit of both
pub record AreHalves (known : ℕ → ℕ) (a b : ℕ) (halves : Halves) : Type 0 where
  pub unit : IsUnit halves.level
  pub first : IsHalf known halves.level a halves.first
  pub second : IsHalf known halves.level b halves.second
  pub least : IsSplit known halves.level a halves.first ⊎ IsSplit known halves.level b halves.second

-- the seat is as before, and the reference is split at its least unit
pub record HasSplit (before after : Seated) (r : ℕ) (node : Split) : Type 0 where
  pub unit : IsUnit node.level
  pub half : IsHalf (map_of before) node.level r node.half
  pub split : IsSplit (map_of before) node.level r node.half
  pub seat : after ≡ before
  pub sound : IsSoundSeat after

-- the same of two references at the least unit of both
pub record HasHalves (before after : Seated) (a b : ℕ) (both : Halves) : Type 0 where
  pub halves : AreHalves (map_of before) a b both
  pub seat : after ≡ before
  pub sound : IsSoundSeat after

-- a sound seat knows both references of two halves
pub record KnowsHalves (seat : Seated) (first second : Half) : Type 0 where
  pub sound : IsSoundSeat seat
  pub first_known : Knows (map_of seat) first.lo × Knows (map_of seat) first.hi
  pub second_known : Knows (map_of seat) second.lo × Knows (map_of seat) second.hi
