use Rattle.std.proofs.Common.{◌≡◌, [], ◌∙◌, ap, refl}
use Rattle.std.proofs.lemmas.List.{drop_all}
use Rattle.unit_sets.specs.UnitList.{among}
use Rattle.residual_ledger.specs.Ledger.{LedgerView}
use Rattle.wave_planner.proofs.KeptLemmas.{nobody}
use Rattle.wave_planner.proofs.StepLemmas.{ahead, one_returned, out_yet, same_but_out}
use Rattle.wave_planner.proofs.filling.put_back.Goals as goal

pub loop-unit-init : goal.loop-unit-init
loop-unit-init c = record { same = refl; rest = record { differ = c.requires.differ; out_now = c.requires.out } }

pub back-requires-clause-out : goal.back-requires-clause-out
back-requires-clause-out c =
    out_yet c.unit-item.result (ahead c.args.wave.now c.loop-unit.unit-index c.loop-unit-test.true c.unit-item.is)
    c.loop-unit.invariant.rest

pub loop-unit-preserved : goal.loop-unit-preserved
loop-unit-preserved c = record {
  same = same_but_out c.args.ledger.now c.loop-unit.invariant.same c.back.ensures;
  rest =
      one_returned c.unit-item.result
      (ahead c.args.wave.now c.loop-unit.unit-index c.loop-unit-test.true c.unit-item.is)
      (ap (λ (v : LedgerView). v.out) c.back.ensures) c.loop-unit.invariant.rest;
}

pub returns : goal.returns
returns c =
    let none : c.loop-unit.ledger.out ≡ [] =
    nobody c.loop-unit.ledger.out
    (λ unit. c.loop-unit.invariant.rest.out_now unit
    ∙ ap (λ l. among l unit) (drop_all c.loop-unit.unit-index c.args.wave.now c.loop-unit-test.false)) in
    c.loop-unit.invariant.same ∙ ap (λ o. record c.args.ledger.now { out = o }) none
