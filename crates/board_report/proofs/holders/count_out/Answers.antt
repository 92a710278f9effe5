use Rattle.std.proofs.Common.{◌≡◌, ◌+◌, ◌∙◌, ap, arith, length}
use Rattle.unit_sets.specs.Words.{passing_below}
use Rattle.residual_ledger.proofs.Passing.{length-passing-le}
use Rattle.margin_policy.proofs.HeldLaws.{is_held}
use Rattle.board_report.proofs.BoardLemmas.{none_counted, counted_more, one_at_most}
use Rattle.board_report.proofs.UnitsOut.{out_up_to}
use Rattle.board_report.proofs.holders.count_out.Goals as goal

pub loop-number-init : goal.loop-number-init
loop-number-init c = none_counted c.args.standing.now.held c.holds_units_alone.ensures.none

pub loop-number-preserved : goal.loop-number-preserved
loop-number-preserved c =
    counted_more c.args.standing.now.held c.loop-number.number c.loop-number.invariant c.count_at-count.ensures

pub overflow_add-count : goal.overflow_add-count
overflow_add-count c =
    omega (
      arith,
      c.loop-number.invariant,
      length-passing-le (is_held c.args.standing.now.held) c.loop-number.number,
      c.loop-number-test.true,
      c.requires.limit,
      c.count_at-count.ensures,
      one_at_most (is_held c.args.standing.now.held c.loop-number.number),
    )

pub returns : goal.returns
returns c =
    let last : c.loop-number.number ≡ c.args.last + 1 =
    omega (arith, c.loop-number-test.false, c.loop-number.auto.number-end (omega arith)) in
    c.loop-number.invariant
    ∙ ap (λ n. length (passing_below (is_held c.args.standing.now.held) n)) last
    ∙ ap length (out_up_to c.args.standing.now.held c.args.last
    (omega (arith, c.holds_units_alone.ensures.all, c.requires.units)))
