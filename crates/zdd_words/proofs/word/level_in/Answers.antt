use Rattle.std.proofs.Common.{◌≡◌, subst, sym}
use Rattle.std.specs.Option.{IfSome}
use Rattle.zdd_words.specs.Word.{level_of}
use Rattle.zdd_words.proofs.{WordLemmas.IsUnit-level_of, Bits.top_bits}
use Rattle.unit_sets.specs.Unit.{IsUnit}
use Rattle.zdd_words.proofs.word.level_in.Goals as goal

pub unwrap-requires : goal.unwrap-requires
unwrap-requires c =
    let unit : IsUnit (level_of c.args.word) = IsUnit-level_of c.args.word c.ranges.word.fits c.requires in
    c.new.ensures.valid.1 (subst IsUnit (sym (top_bits c.args.word)) unit)

pub returns : goal.returns
unfolding level_of
returns c = subst (λ option. IfSome option (λ u. u ≡ level_of c.args.word)) c.unwrap.ensures c.new.ensures.value
