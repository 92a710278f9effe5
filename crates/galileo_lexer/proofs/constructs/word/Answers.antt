use Rattle.std.proofs.Common.{arith, ◌∙◌, sym}
use Rattle.galileo_lexer.proofs.Steps.{word_begins, word_more}
use Rattle.galileo_lexer.proofs.constructs.word.Goals as goal

pub loop-end-init : goal.loop-end-init
loop-end-init c = record {
  in_text = omega arith;
  begun = omega arith;
  same = word_begins c.args.start c.args.text.now c.requires.inside c.requires.first;
}

pub loop-end-preserved : goal.loop-end-preserved
loop-end-preserved c = record {
  in_text = omega arith;
  begun = omega arith;
  same =
      c.loop-end.invariant.same ∙ word_more c.args.start c.loop-end.end c.args.text.now c.loop-end-test.true
      (sym c.if-is_word_byte.ensures);
}
