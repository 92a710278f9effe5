use Rattle.galileo_tree.specs.Parsed.{lexemes_of}
use Rattle.galileo_tree.proofs.{Forms.read_form, Sound.sound}
use Rattle.galileo_tree.proofs.laws.parses_its_text.Goals as goal

pub returns-clause-reading : goal.returns-clause-reading
returns-clause-reading c = λ text. sound (lexemes_of text)

pub returns-clause-form : goal.returns-clause-form
returns-clause-form c = read_form
