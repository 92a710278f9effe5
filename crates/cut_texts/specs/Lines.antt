-- Lines that are kept: a head, the names of some units of a tree, and a tail.
use Rattle.std.specs.Prelude.{◌≡◌, ℕ, ◌+◌, ◌<◌, ◌≤◌, List, ◌++◌, All, length, take, drop, get_or}
use Rattle.fault_definitions.specs.Tree.{FaultTree, IsUnitOf}
use Rattle.cut_texts.specs.{declared.line.Line.Line, UnitTexts.spaced}

-- behind a head of so many bytes a text spells some units of the tree, whose names end at these places, and then comes
-- a tail
pub record Spells (tree : FaultTree) (head : ℕ) (units ends text tail : List ℕ) : Type 0 where
  pub known : All (IsUnitOf tree) units
  pub count : length ends ≡ length units
  pub places : (k : ℕ) → k < length units → get_or ends k 0 ≡ head + length (spaced tree (take (k + 1) units))
  pub headed : head ≤ length text
  pub spelled : drop head text ≡ spaced tree units ++ tail

-- the same of a line
abbrev pub LineSpells : FaultTree → Line → List ℕ → Type 0
LineSpells tree line tail = Spells tree line.head line.units.items line.ends.items line.text.items tail

-- the same with some tail
abbrev pub SpellsSome : FaultTree → Line → Type 0
SpellsSome tree line = (tail : List ℕ) × LineSpells tree line tail

-- the head of a line, if it has one, is this
abbrev pub StartsWith : List ℕ → Line → Type 0
StartsWith start line = 0 < line.head → take line.head line.text.items ≡ start

-- a line of units of the tree behind this head, or behind none
pub record IsLine (tree : FaultTree) (start : List ℕ) (line : Line) : Type 0 where
  pub starts : StartsWith start line
  pub spells : SpellsSome tree line

-- the head stays
pub record SameHead (old new : Line) : Type 0 where
  pub head : new.head ≡ old.head
  pub start : take old.head new.text.items ≡ take old.head old.text.items
