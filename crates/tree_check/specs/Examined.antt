-- A text by numbers: before the classes are looked for that are told by numbers, and where no class of faults occurs.
use Rattle.std.specs.Prelude.{◌≡◌, ◌≤◌, true, length, take}
use Rattle.galileo_tree.specs.ReadTree.{ReadTree}
use Rattle.fault_words.specs.Names.{all_differ}
use Rattle.tree_check.specs.{declared.numbered.NumberedText.NumberedText, declared.numbered.Parts.Parts, Said.names}
use Rattle.tree_check.specs.{Numbering.IsDeckOf, TreeOf.HasRanks}
use Rattle.tree_check.specs.Numbered.{numbered_gates, numbered_tops, unit_total}
use Rattle.tree_check.specs.Checked.{IsFaultless, NoneOf, before_cycles}

-- the text of which these are the parts
abbrev pub read_of : Parts → ReadTree
read_of parts = record { statements = parts.statements.now; end = parts.end }

-- the parts agree, and the names differ and are all defined: none of the first four classes occurs
pub record AreParts (parts : Parts) : Type 0 where
  pub units : parts.units ≡ unit_total parts.statements.now
  pub gates : parts.gates.now ≡ numbered_gates parts.statements.now
  pub tops : parts.tops.now ≡ numbered_tops parts.statements.now
  pub few : parts.units ≤ length parts.statements.now
  pub once : all_differ (names parts.statements.now) ≡ true
  pub none : NoneOf (read_of parts) (take 4 before_cycles)

-- no class of faults occurs, and the nodes have ranks
pub record HasPassed (read : ReadTree) : Type 0 where
  pub faultless : IsFaultless read
  pub ranks : HasRanks read.statements

-- the text by numbers, where no class of faults occurs in it: its names differ, and its nodes have ranks
pub record IsExamined (read : ReadTree) (deck : NumberedText) : Type 0 where
  pub numbered : IsDeckOf (names read.statements) read.statements deck
  pub once : all_differ (names read.statements) ≡ true
  pub faultless : IsFaultless read
  pub ranks : HasRanks read.statements
