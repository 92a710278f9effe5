use Rattle.std.proofs.Common.{sym, ◌∙◌, subst}
use Rattle.std.proofs.lemmas.List.{take_all}
use Rattle.wave_planner.specs.{Ends.AreFreeAlone}
use Rattle.wave_planner.proofs.StepLemmas.{alone_more, stuck_at}
use Rattle.wave_planner.proofs.planning.first_stuck.Goals as goal

pub returns-in-Some : goal.returns-in-Some
returns-in-Some c =
    stuck_at c.args.ledger.now.cuts c.args.margin c.args.wanted.now c.loop-unit.unit-index c.loop-unit-test.true
    c.unit-item.is c.loop-unit.invariant
    c.requires.none_out (sym c.first_tight.ensures ∙ c.in-Some.is)

pub loop-unit-preserved : goal.loop-unit-preserved
loop-unit-preserved c =
    alone_more c.args.ledger.now.cuts c.args.margin c.args.wanted.now c.loop-unit.unit-index c.loop-unit-test.true
    c.unit-item.is c.requires.none_out
    (sym c.first_tight.ensures ∙ c.in_default.is) c.loop-unit.invariant

pub returns : goal.returns
returns c =
    subst (AreFreeAlone c.args.ledger.now.cuts c.args.margin)
    (take_all c.loop-unit.unit-index c.args.wanted.now c.loop-unit-test.false) c.loop-unit.invariant
