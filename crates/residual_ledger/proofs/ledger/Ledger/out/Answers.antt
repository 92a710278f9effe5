use Rattle.std.proofs.Common.{◌≡◌, take_at, rules, ap, ◌∙◌, arith}
use Rattle.residual_ledger.specs.{Holding.holding, Kept.IsOneMore}
use Rattle.residual_ledger.proofs.LedgerLemmas.{row_rises, row_within, row_positive, lowered_counts, written}
use Rattle.residual_ledger.proofs.ledger.Ledger.out.Goals.{After-row-row}
use Rattle.residual_ledger.proofs.ledger.Ledger.out.Goals as goal

-- the row is that of the unit's cut sets
held : (c : After-row-row) → c.row-row.result.now ≡ holding c.self.inside.cuts c.args.unit
held c =
    c.row-row.ensures ∙ (c.self.invariant.rows_of_units.row c.args.unit c.number.ensures.unit.0
    (omega (arith, ap (λ v. v.units) c.self.view_is))).is

pub lower-requires-clause-rising : goal.lower-requires-clause-rising
lower-requires-clause-rising c =
    let at = goal.at.lower-requires-clause-rising c in
    row_rises c.self.inside.cuts c.args.unit (held at.After-row-row)

pub lower-requires-clause-within : goal.lower-requires-clause-within
lower-requires-clause-within c =
    let at = goal.at.lower-requires-clause-within c in
    let inside = c.self.inside in
    rw c.as_mut_slice.ensures.value (row_within inside.out inside.cuts c.args.unit (held at.After-row-row)
    c.self.invariant.counted)

pub lower-requires-clause-positive : goal.lower-requires-clause-positive
lower-requires-clause-positive c =
    let at = goal.at.lower-requires-clause-positive c in
    let inside = c.self.inside in
    rw c.as_mut_slice.ensures.value (row_positive inside.out inside.cuts c.args.unit (held at.After-row-row)
    c.self.invariant.counted c.self.invariant.whole.ordered (search rules))

pub invariant_of-self : goal.invariant_of-self
invariant_of-self c =
    let at = goal.at.invariant_of-self c in
    let inside = c.self.inside in
    let more : IsOneMore c.row-row.result.now c.lower.new.counts inside.counts.items =
    rw c.as_mut_slice.ensures.value at c.lower.ensures.lowered in
    rw (c.insert.ensures.after) (written
    (take_at c.lower.new.counts _ _ (omega (arith, c.lower.auto.counts, c.as_mut_slice.ensures.len)))
    (record {
      whole = c.self.invariant.whole;
      counted = lowered_counts inside.out inside.cuts c.args.unit (held at.After-row-row)
          c.self.invariant.counted c.self.invariant.whole.ordered (search rules) more;
      blocks = c.lower.ensures.least;
      rows_of_units = c.self.invariant.rows_of_units;
    }))
