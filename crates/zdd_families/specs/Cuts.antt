-- A family cut at a unit that none of its sets' units is below: the sets without it, and those with it.
use Rattle.std.specs.Prelude.{◌≡◌, ℕ, List}
use Rattle.zdd_families.specs.Family.{IsAbove, branch}

-- f is the branch of lo and hi at x, where hi may have no sets
pub record Cuts (x : ℕ) (f lo hi : List (List ℕ)) : Type 0 where
  pub is : f ≡ branch x lo hi
  pub lo_above : IsAbove x lo
  pub hi_above : IsAbove x hi
