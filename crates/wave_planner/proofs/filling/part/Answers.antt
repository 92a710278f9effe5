use Rattle.std.proofs.Common.{refl, ◌∙◌, ap}
use Rattle.std.proofs.lemmas.List.{drop_all}
use Rattle.residual_ledger.specs.Ledger.{LedgerView}
use Rattle.wave_planner.specs.Filling.{is_free}
use Rattle.wave_planner.proofs.FreeLemmas.{passes_fewer}
use Rattle.wave_planner.proofs.StepLemmas.{ahead, parting_begins, parting_ends, parting_goes_on, same_but_out}
use Rattle.wave_planner.proofs.StepLemmas.{turn_in_service}
use Rattle.wave_planner.proofs.filling.part.Goals as goal

pub loop-unit-init : goal.loop-unit-init
loop-unit-init c = record {
  same = refl;
  parts =
      parting_begins (is_free c.args.ledger.now.cuts c.args.margin) c.requires.differ c.requires.free
      c.requires.none_out c.requires.no_wave c.requires.no_rest;
}

pub try_unit-requires-clause-in_service : goal.try_unit-requires-clause-in_service
try_unit-requires-clause-in_service c =
    turn_in_service (is_free c.args.ledger.now.cuts c.args.margin) c.unit-item.result
    (ahead c.args.left.now c.loop-unit.unit-index c.loop-unit-test.true c.unit-item.is) c.loop-unit.invariant.parts

pub try_unit-requires-clause-free : goal.try_unit-requires-clause-free
try_unit-requires-clause-free c =
    ap (λ (v : LedgerView). is_free v.cuts c.args.margin c.loop-unit.ledger.out) c.loop-unit.invariant.same
    ∙ c.loop-unit.invariant.parts.may

pub loop-unit-preserved : goal.loop-unit-preserved
loop-unit-preserved c = record {
  same = same_but_out c.args.ledger.now c.loop-unit.invariant.same c.try_unit.ensures.ledger;
  parts =
      parting_goes_on (is_free c.args.ledger.now.cuts c.args.margin) (is_free c.loop-unit.ledger.cuts c.args.margin)
      c.unit-item.result (passes_fewer c.args.ledger.now.cuts c.args.margin)
      (ap (λ (v : LedgerView). is_free v.cuts c.args.margin) c.loop-unit.invariant.same)
      (ahead c.args.left.now c.loop-unit.unit-index c.loop-unit-test.true c.unit-item.is)
      (ap (λ (v : LedgerView). v.out) c.try_unit.ensures.ledger) c.in_ok-try_unit.ensures.wave
      c.in_ok-try_unit.ensures.rest c.loop-unit.invariant.parts;
}

pub returns-clause-wave : goal.returns-clause-wave
returns-clause-wave c =
    (parting_ends (is_free c.args.ledger.now.cuts c.args.margin)
    (drop_all c.loop-unit.unit-index c.args.left.now c.loop-unit-test.false) c.loop-unit.invariant.parts).0

pub returns-clause-rest : goal.returns-clause-rest
returns-clause-rest c =
    (parting_ends (is_free c.args.ledger.now.cuts c.args.margin)
    (drop_all c.loop-unit.unit-index c.args.left.now c.loop-unit-test.false) c.loop-unit.invariant.parts).1
