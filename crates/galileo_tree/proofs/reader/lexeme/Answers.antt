use Rattle.galileo_tree.proofs.NameTexts.{rest_reaches, quoted_rest, plain_rest}
use Rattle.galileo_tree.proofs.reader.lexeme.Goals as goal

pub new-requires-clause-form : goal.new-requires-clause-form
new-requires-clause-form c =
    quoted_rest c.args.text.now c.args.token.kind c.args.token.start c.args.token.end
    c.in-Quoted.is c.requires.in_text c.requires.some c.requires.spelling

pub new-requires-in-Word : goal.new-requires-in-Word
new-requires-in-Word c =
    let text = c.args.text.now in
    let token = c.args.token in
    record {
      inside = rest_reaches text token.start token.end c.requires.in_text c.requires.some;
      form =
          plain_rest text token.kind token.start token.end c.in-Word.is c.requires.in_text c.requires.some
          c.requires.spelling;
    }
