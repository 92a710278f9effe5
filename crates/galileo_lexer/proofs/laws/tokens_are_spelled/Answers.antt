use Rattle.galileo_lexer.specs.{Spelling.IsSpelled, Lexed.tokens_of}
use Rattle.std.proofs.lemmas.List.Elements.{All-from_recursion}
use Rattle.galileo_lexer.proofs.Spelled.{spelled}
use Rattle.galileo_lexer.proofs.laws.tokens_are_spelled.Goals as goal

pub returns : goal.returns
returns c = λ text. All-from_recursion (IsSpelled text) (tokens_of text).tokens (spelled text)
