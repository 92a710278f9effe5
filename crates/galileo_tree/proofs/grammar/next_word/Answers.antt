use Rattle.std.proofs.Common.{refl, sym}
use Rattle.galileo_tree.specs.Parsed.{AttributeWord}
use Rattle.galileo_tree.proofs.Parses.{goes_by, goes_then}
use Rattle.galileo_tree.proofs.grammar.next_word.Goals as goal

-- the word, and then its `=`
pub returns : goal.returns
returns c = λ name attributes.
    let word = c.in_ok-lexeme.lexeme.text in
    rw c.in_ok-word.ensures.name (goes_then (goes_by (AttributeWord name attributes word) c.in_ok-lexeme.ensures
    (rw (sym c.if-is_semicolon.ensures, sym c.if-not-is_bare.ensures.bare) refl))
    (c.in_ok-equals.ensures name attributes word))
