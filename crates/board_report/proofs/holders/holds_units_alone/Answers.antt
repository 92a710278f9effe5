use Rattle.std.proofs.Common.{subst, ap, All}
use Rattle.unit_sets.specs.Unit.{IsUnit}
use Rattle.residual_ledger.specs.Ledger.{LedgerView}
use Rattle.board_report.proofs.BoardLemmas.{zero_free}
use Rattle.board_report.proofs.holders.holds_units_alone.Goals as goal

pub returns-in-Some-clause-none : goal.returns-in-Some-clause-none
returns-in-Some-clause-none c =
    zero_free c.args.standing.now.held (subst (All IsUnit) (ap (λ (ledger : LedgerView). ledger.out) c.ledger.ensures)
    c.is_out.ensures.set.units)
