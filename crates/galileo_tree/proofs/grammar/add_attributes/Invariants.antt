use Rattle.std.proofs.Common.{◌≡◌, ◌≤◌, length}
use Rattle.galileo_tree.specs.Parsed.{AttributeEquals, parsed_from}
use Rattle.galileo_tree.proofs.grammar.add_attributes.Given as goal

abbrev pub invariant-loop-read : goal.invariant-loop-read
invariant-loop-read l = record {
  same : parsed_from (AttributeEquals l.fn.basic.name l.fn.basic.attributes l.fn.first) l.fn.reader
      ≡ parsed_from (AttributeEquals l.basic.name l.basic.attributes l.word) l.reader;
  fewer : length l.reader.lexemes ≤ length l.fn.reader.lexemes;
}

abbrev pub decreases-loop-read : goal.decreases-loop-read
decreases-loop-read l = length l.reader.lexemes
