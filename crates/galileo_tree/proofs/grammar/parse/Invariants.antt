use Rattle.std.proofs.Common.{◌≡◌, length}
use Rattle.galileo_tree.specs.Parsed.{Outside, parsed_from, parsed_text}
use Rattle.galileo_tree.proofs.Parses.{with_front}
use Rattle.galileo_tree.proofs.grammar.parse.Given as goal

abbrev pub invariant-loop-statements : goal.invariant-loop-statements
invariant-loop-statements l = parsed_text l.text ≡ with_front l.statements (parsed_from Outside l.reader)

abbrev pub decreases-loop-statements : goal.decreases-loop-statements
decreases-loop-statements l = length l.reader.lexemes
