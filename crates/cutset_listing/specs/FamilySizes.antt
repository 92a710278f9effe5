-- How large families are, by their references.
use Rattle.std.specs.Prelude.{◌≡◌, ℕ, ◌≤◌, nat_eq, if◌then◌else◌, List, length, Option, Some, IfSome}
use Rattle.std.specs.Map.{lookup}
use Rattle.unit_sets.specs.CutOrder.{weight, weight_limit}
use Rattle.zdd_families.specs.Map.{family}
use Rattle.cutset_listing.specs.declared.measure.FamilySize.{FamilySize}

-- a family has so many sets, and they weigh so much, which is no more than a list may
pub record IsSizeOf (sets : List (List ℕ)) (size : FamilySize) : Type 0 where
  pub count : size.sets ≡ length sets
  pub weighs : size.weight ≡ weight sets
  pub light : weight sets ≤ weight_limit

-- the size that was found for a reference
abbrev pub size_at : List (ℕ × FamilySize) → ℕ → Option FamilySize
size_at found r = lookup (nat_eq r) found

-- what is found for a reference once a size was put to another
abbrev pub with_size : ℕ → FamilySize → List (ℕ × FamilySize) → ℕ → Option FamilySize
with_size r size found q = if nat_eq r q then Some size else size_at found q

-- each size is that of its reference's family
abbrev pub AreSizes : (ℕ → ℕ) → List (ℕ × FamilySize) → Type 0
AreSizes known found = (r : ℕ) → IfSome (size_at found r) (IsSizeOf (family known r))
