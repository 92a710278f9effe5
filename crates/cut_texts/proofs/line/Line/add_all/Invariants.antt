use Rattle.std.proofs.Common.{◌≡◌, [], ◌++◌, take}
use Rattle.cut_texts.specs.Lines.{LineSpells, SameHead}
use Rattle.cut_texts.proofs.line.Line.add_all.Given as goal

abbrev pub invariant-loop-unit : goal.invariant-loop-unit
invariant-loop-unit l = record {
  added : l.self.units.items ≡ l.initial.self.units.items ++ take l.unit-index l.units;
  line : LineSpells l.names.tree.now l.self [];
  head : SameHead l.initial.self l.self;
}
