use Rattle.std.proofs.Common.{◌≡◌, ◌≤◌, length}
use Rattle.galileo_tree.specs.{Parsed.Inputs, Parsed.parsed_from, Reads.before}
use Rattle.galileo_tree.proofs.grammar.add_inputs.Given as goal

abbrev pub invariant-loop-lexeme : goal.invariant-loop-lexeme
invariant-loop-lexeme l = record {
  same : parsed_from (Inputs l.fn.gate.name l.fn.gate.word l.fn.gate.kind l.fn.gate.inputs)
      (before l.fn.first l.fn.reader)
      ≡ parsed_from (Inputs l.gate.name l.gate.word l.gate.kind l.gate.inputs) (before l.lexeme l.reader);
  fewer : length l.reader.lexemes ≤ length l.fn.reader.lexemes;
}

abbrev pub decreases-loop-lexeme : goal.decreases-loop-lexeme
decreases-loop-lexeme l = length l.reader.lexemes
