-- Families whose units lie between two numbers. One is cut at its first number, whether or not it has
-- sets with that unit, and both parts lie between the next number and the last.
use Rattle.std.specs.Prelude.{◌≡◌, ℕ, ◌+◌, ◌≤◌, true, List, Contains}
use Rattle.unit_sets.specs.UnitList.{among}
use Rattle.zdd_families.specs.Family.{IsFamily, IsAbove}

-- all units are above one number and at most as much as another above it
pub record Spans (low size : ℕ) (family : List (List ℕ)) : Type 0 where
  pub is_family : IsFamily family
  pub above : IsAbove low family
  pub below : (set : List ℕ) → Contains family set → (unit : ℕ) → among set unit ≡ true → unit ≤ low + size
