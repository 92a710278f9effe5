-- The texts of the units of a tree, and of some of them one after another.
use Rattle.std.specs.Prelude.{◌≡◌, ℕ, ◌-◌, ◌≤◌, List, [], length, slice_index_or}
use Rattle.std.specs.List.{flat_map}
use Rattle.fault_definitions.specs.Tree.{FaultTree, IsUnitOf, unit_count, name_of}
use Rattle.text_pieces.specs.Shown.{named}

-- a unit's name behind a blank
abbrev pub unit_text : FaultTree → ℕ → List ℕ
unit_text tree unit = named (name_of tree unit)

-- the names of units, each behind a blank
abbrev pub spaced : FaultTree → List ℕ → List ℕ
spaced tree units = flat_map (unit_text tree) units

-- texts of which each unit of the tree has its own, in the order of the units
pub record AreTextsOf (tree : FaultTree) (texts : List (List ℕ)) : Type 0 where
  pub count : unit_count tree ≤ length texts
  pub each : (unit : ℕ) → IsUnitOf tree unit → slice_index_or texts (unit - 1) [] ≡ unit_text tree unit
