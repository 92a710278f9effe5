-- The node of a reference that a map knows, and what a node is made of.
use Rattle.std.specs.Prelude.{◌≡◌, ◌≢◌, ℕ, ◌<◌, List}
use Rattle.unit_sets.specs.Unit.{IsUnit}
use Rattle.zdd_words.specs.declared.word.Parts.{Parts}
use Rattle.zdd_families.specs.{Family.IsAbove, Cuts.Cuts}
use Rattle.zdd_families.specs.Map.{Knows, family, level_in}

-- its level and both parts, whose units lie above the level
pub record ArePartsOf (known : ℕ → ℕ) (r : ℕ) (parts : Parts) : Type 0 where
  pub unit : IsUnit parts.level
  pub level : level_in known r ≡ parts.level
  pub knows_lo : Knows known parts.lo
  pub knows_hi : Knows known parts.hi
  pub filled : parts.hi ≢ 0
  pub lo_above : parts.level < level_in known parts.lo
  pub hi_above : parts.level < level_in known parts.hi
  pub cut : Cuts parts.level (family known r) (family known parts.lo) (family known parts.hi)

-- a node can be made of lo and hi: both are there and lie above the level, and hi has sets
pub record CanMake (has : ℕ → Type 0) (is : ℕ → List (List ℕ)) (level lo hi : ℕ) : Type 0 where
  pub has_lo : has lo
  pub has_hi : has hi
  pub filled : hi ≢ 0
  pub lo_above : IsAbove level (is lo)
  pub hi_above : IsAbove level (is hi)
