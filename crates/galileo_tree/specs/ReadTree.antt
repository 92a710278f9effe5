-- What is read of a text that is in the grammar.
use Rattle.std.specs.Prelude.{◌≡◌, ◌≤◌, true, List, All}
use Rattle.fault_words.specs.{declared.kind.GateKind.GateKind, declared.kind.GateKind.TheVariants.Votes}
use Rattle.fault_words.specs.{declared.place.Place.Place, Name.is_bare_name}
use Rattle.galileo_tree.specs.{declared.raw.Statement.Statement, declared.raw.RawAttribute.RawAttribute}
use Rattle.galileo_tree.specs.declared.raw.Statement.TheVariants.{Top, Gate, Basic}

-- the statements in their order, and the place behind the last byte
pub record ReadTree : Type 0 where
  pub statements : List Statement
  pub end : Place

-- the numbers of `KofN` have at most nine digits
abbrev pub HasShortNumbers : GateKind → Type 0
HasShortNumbers (Votes least of) = (least ≤ 999999999) × (of ≤ 999999999)
HasShortNumbers _ = Unit {0}

-- the word of an attribute is a bare name
abbrev pub HasBareWord : RawAttribute → Type 0
HasBareWord raw = is_bare_name raw.attribute.word ≡ true

-- what each statement keeps of the form that it was written in
abbrev pub KeepsForm : Statement → Type 0
KeepsForm (Top top) = Unit {0}
KeepsForm (Gate gate) = HasShortNumbers gate.kind
KeepsForm (Basic basic) = All HasBareWord basic.attributes
