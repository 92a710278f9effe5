use Rattle.std.proofs.Common.{sym, ◌∙◌, map}
use Rattle.board_words.proofs.OptionLemmas.{are_options-no, are_options-more}
use Rattle.board_words.proofs.options.are_options.Goals as goal

pub returns-then-not-is_said_once : goal.returns-then-not-is_said_once
returns-then-not-is_said_once c =
    are_options-no (map (λ word. word.now) c.args.known.now) c.loop-rest.rest.now c.option-item.result
    c.in-len2-up.len_at_least
    (c.as_slice.ensures ∙ c.option-item.is) (sym c.is_said_once.ensures ∙ c.if-not-is_said_once.true)
    ∙ c.loop-rest.invariant

pub loop-rest-preserved : goal.loop-rest-preserved
loop-rest-preserved c =
    are_options-more (map (λ word. word.now) c.args.known.now) c.loop-rest.rest.now c.option-item.result
    c.in-len2-up.len_at_least
    (c.as_slice.ensures ∙ c.option-item.is) (sym c.is_said_once.ensures ∙ c.if-not-is_said_once.false)
    ∙ c.loop-rest.invariant
