use Rattle.galileo_lexer.proofs.Places.{line_behind, column_behind}
use Rattle.galileo_lexer.proofs.laws.places_count_line_feeds.Goals as goal

pub returns-clause-line : goal.returns-clause-line
returns-clause-line c = line_behind

pub returns-clause-column : goal.returns-clause-column
returns-clause-column c = column_behind
