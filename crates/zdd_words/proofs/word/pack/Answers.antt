use Rattle.std.proofs.Common.{◌∙◌, ap}
use Rattle.zdd_words.specs.Word.{hi_of, level_of, lo_of}
use Rattle.zdd_words.proofs.WordLemmas.{level_of-packed, lo_of-packed, hi_of-packed}
use Rattle.zdd_words.proofs.Bits.{joined_bits_of}
use Rattle.zdd_words.proofs.word.pack.Goals as goal

pub returns-clause-value : goal.returns-clause-value
returns-clause-value c =
    joined_bits_of (c.from-level.ensures ∙ c.number.ensures.value) (c.from-lo.ensures ∙ c.number-2.ensures.value)
    (c.from-hi.ensures ∙ c.number-3.ensures.value)
    c.number.ensures.unit c.number-2.ensures.small c.number-3.ensures.small

pub returns-clause-level_comes_back : goal.returns-clause-level_comes_back
returns-clause-level_comes_back c =
    ap level_of (returns-clause-value c) ∙ level_of-packed c.args.level c.args.lo c.args.hi c.number-2.ensures.small
    c.number-3.ensures.small

pub returns-clause-lo_comes_back : goal.returns-clause-lo_comes_back
returns-clause-lo_comes_back c =
    ap lo_of (returns-clause-value c) ∙ lo_of-packed c.args.level c.args.lo c.args.hi c.number-2.ensures.small
    c.number-3.ensures.small

pub returns-clause-hi_comes_back : goal.returns-clause-hi_comes_back
returns-clause-hi_comes_back c =
    ap hi_of (returns-clause-value c) ∙ hi_of-packed c.args.level c.args.lo c.args.hi c.number-3.ensures.small
