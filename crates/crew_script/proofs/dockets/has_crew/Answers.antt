use Rattle.std.proofs.Common.{sym, ◌∙◌}
use Rattle.crew_script.proofs.DocketLemmas.{has_at}
use Rattle.crew_script.proofs.dockets.has_crew.Goals as goal

pub returns-then-eq : goal.returns-then-eq
returns-then-eq c =
    sym (has_at c.args.crews.now c.args.name.now c.loop-crew.crew-index c.loop-crew-test.true
    c.crew-item.is (sym c.eq.ensures ∙ c.if-eq.true))
