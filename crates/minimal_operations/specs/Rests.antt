-- Nodes whose sets with the level are rid of those that include one without it.
use Rattle.std.specs.Prelude.{◌≡◌, ℕ, List}
use Rattle.zdd_families.specs.{Family.IsAbove, Family.branch, Without.IsWithout, Antichains.IsAntichain}
use Rattle.family_memory.specs.Memory.{Held, Has, IsSound, family_in}

-- the family has the sets of lo, and each with x what is left of all the others without lo
pub record IsRidBranch (x : ℕ) (lo all family : List (List ℕ)) : Type 0 where
  pub hi : List (List ℕ)
  pub left : IsWithout all lo hi
  pub is : family ≡ branch x lo hi

-- what is left of the sets without the part is what is left of them without the others
pub record Serves (held : Held) (all others part : ℕ) : Type 0 where
  pub has : Has held part
  pub same : (left : List (List ℕ)) → IsWithout (family_in held all) (family_in held part) left
      → IsWithout (family_in held all) (family_in held others) left

-- x is below all units of lo and of all, and another family serves in place of lo
pub record CanRid (held : Held) (x lo all other : ℕ) : Type 0 where
  pub sound : IsSound held
  pub has_lo : Has held lo
  pub has_all : Has held all
  pub lo_above : IsAbove x (family_in held lo)
  pub all_above : IsAbove x (family_in held all)
  pub serves : Serves held all lo other

-- a node of x, lo and hi would stand for a minimal family
pub record CanBranch (held : Held) (x lo hi : ℕ) : Type 0 where
  pub sound : IsSound held
  pub has_lo : Has held lo
  pub has_hi : Has held hi
  pub lo_above : IsAbove x (family_in held lo)
  pub hi_above : IsAbove x (family_in held hi)
  pub antichain : IsAntichain (branch x (family_in held lo) (family_in held hi))
