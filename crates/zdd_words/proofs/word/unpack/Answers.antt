use Rattle.std.proofs.Common.{◌∙◌}
use Rattle.zdd_words.proofs.{WordLemmas.packed-parts, Bits.hi_of-shifted, Bits.same_packed}
use Rattle.zdd_words.proofs.word.unpack.Goals as goal

pub returns-clause-lo : goal.returns-clause-lo
returns-clause-lo c = c.in_lowest_bits.ensures ∙ hi_of-shifted c.args.word

pub returns-clause-word_comes_back : goal.returns-clause-word_comes_back
returns-clause-word_comes_back c =
    same_packed c.level_in.ensures (returns-clause-lo c) c.in_lowest_bits-2.ensures
    ∙ packed-parts c.args.word
