use Rattle.std.proofs.Common.{w64, arith, sym}
use Rattle.unit_sets.proofs.unit_set.is_covered.Goals as goal
use Rattle.std.proofs.{lemmas.Bool.false_from_ne_true, Math.Facts.Fits-lt-pow}
use Rattle.unit_sets.proofs.WordSets.{is_within-from_words, covered-from_is_within}

pub returns-then-word-others : goal.returns-then-word-others
returns-then-word-others c =
    sym (false_from_ne_true _ (λ within. c.if-word-others.true
    (covered-from_is_within c.args.words.now c.args.others.now c.loop-k.k c.loop-k-test.true
    (Fits-lt-pow {w = w64} (c.type_inv.words c.loop-k.k)) within)))

pub returns : goal.returns
returns c =
    sym (is_within-from_words c.args.words.now c.args.others.now (λ k h. c.loop-k.invariant k (omega arith)))
