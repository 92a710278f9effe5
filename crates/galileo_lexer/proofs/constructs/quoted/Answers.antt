use Rattle.std.proofs.Common.{arith, ◌∙◌, sym}
use Rattle.std.proofs.lemmas.Bool.{ne_eqb}
use Rattle.galileo_lexer.proofs.Steps.{quotes_begin, quotes_more}
use Rattle.galileo_lexer.proofs.constructs.quoted.Goals as goal

pub loop-end-init : goal.loop-end-init
loop-end-init c = record {
  in_text = omega arith;
  begun = omega arith;
  same = quotes_begin c.args.start c.args.text.now c.requires.inside c.requires.first;
}

pub loop-end-preserved : goal.loop-end-preserved
loop-end-preserved c = record {
  in_text = omega arith;
  begun = omega arith;
  same =
      c.loop-end.invariant.same ∙ quotes_more c.args.start c.loop-end.end c.args.text.now c.loop-end-test.true
      (ne_eqb _ _ c.if-byte-eq-QUOTE.false) (sym c.if-not-is_quotable.ensures);
}
