use Rattle.std.proofs.Common.{arith, ◌∙◌, sym}
use Rattle.cut_texts.proofs.CountingUp.{more, carried}
use Rattle.cut_texts.proofs.line.+count_up.Goals as goal

pub returns-then-digits-last-lt57-clause-counted : goal.returns-then-digits-last-lt57-clause-counted
returns-then-digits-last-lt57-clause-counted t c n within is done = more n within is c.if-digits-last-lt57.true

pub returns-clause-counted : goal.returns-clause-counted
returns-clause-counted t c n within is done =
    carried c.count_up.new.digits n within is (omega arith)
    (λ m less part. c.count_up.ensures.counted m less part done) (λ none. sym done ∙ c.count_up.ensures.none none)
