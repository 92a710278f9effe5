use Rattle.std.proofs.Common.{sym, arith}
use Rattle.wave_planner.proofs.OwnLemmas.{IsOwnRow, goes, none_passed, one_less, one_more_passed, own_place, stays}
use Rattle.wave_planner.proofs.filling.may_go.Goals as goal
use Rattle.wave_planner.proofs.filling.may_go.Goals.{After-holding-place-items}

own : (c : After-holding-place-items)
    → IsOwnRow c.args.ledger.now.cuts c.args.ledger.now.out c.args.unit c.holding-place-items.result.now
own c = record {
  is = c.holding-place-items.ensures;
  ordered = c.cuts.ensures.whole.ordered;
  in_service = c.requires.in_service;
}

pub loop-place-init : goal.loop-place-init
loop-place-init c = none_passed (own c) c.args.margin

pub residual-requires : goal.residual-requires
residual-requires c =
    let at = goal.at.residual-requires c in
    (own_place (own at.After-holding-place-items) c.loop-place.place-index c.loop-place-test.true).0

pub overflow_sub-residual : goal.overflow_sub-residual
overflow_sub-residual c =
    let at = goal.at.overflow_sub-residual c in
    let less =
    one_less (own at.After-holding-place-items) c.loop-place.place-index c.loop-place-test.true c.residual.ensures in
    omega (arith, less)

pub returns-then-residual-margin : goal.returns-then-residual-margin
returns-then-residual-margin c =
    let at = goal.at.returns-then-residual-margin c in
    sym (stays (own at.After-holding-place-items) c.loop-place.place-index c.loop-place-test.true c.residual.ensures
    c.args.margin (omega arith))

pub loop-place-preserved : goal.loop-place-preserved
loop-place-preserved c =
    let at = goal.at.loop-place-preserved c in
    one_more_passed (own at.After-holding-place-items) c.loop-place.place-index c.loop-place-test.true
    c.residual.ensures c.args.margin (omega arith) c.loop-place.invariant

pub returns : goal.returns
returns c =
    let at = goal.at.returns c in
    sym (goes (own at.After-holding-place-items) c.args.margin c.loop-place.place-index c.loop-place-test.false
    c.requires.free c.loop-place.invariant)
