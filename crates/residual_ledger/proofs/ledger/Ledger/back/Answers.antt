use Rattle.std.proofs.Common.{◌≡◌, ◌<◌, length, All, take_at, rules, ap, ◌∙◌, arith}
use Rattle.residual_ledger.specs.Holding.{holding}
use Rattle.residual_ledger.specs.Kept.{IsOneMore}
use Rattle.residual_ledger.proofs.BlockLemmas.{risen}
use Rattle.residual_ledger.proofs.LedgerLemmas.{row_rises, row_within, row_room, raised_counts, written}
use Rattle.residual_ledger.proofs.ledger.Ledger.back.Goals.{After-as_slice, After-raise, After-row-row}
use Rattle.residual_ledger.proofs.ledger.Ledger.back.Goals as goal

-- the row is that of the unit's cut sets
held : (c : After-row-row) → c.row-row.result.now ≡ holding c.self.inside.cuts c.args.unit
held c =
    c.row-row.ensures ∙ (c.self.invariant.rows_of_units.row c.args.unit c.number.ensures.unit.0
    (omega (arith, ap (λ v. v.units) c.self.view_is))).is

within : (c : After-row-row) → All (λ place. place < length c.self.inside.counts.items) c.row-row.result.now
within c =
    let inside = c.self.inside in
    row_within inside.out inside.cuts c.args.unit (held c) c.self.invariant.counted

-- each count of the row is one more
more : (c : After-raise) → IsOneMore c.row-row.result.now c.self.inside.counts.items c.raise.new.counts
more c = rw c.as_mut_slice.ensures.value at c.raise.ensures

whole : (c : After-as_slice) → c.as_slice.result.now ≡ c.raise.new.counts
whole c =
    c.as_slice.ensures.value ∙ take_at c.raise.new.counts _ _
    (omega (arith, c.raise.auto.counts, c.as_mut_slice.ensures.len))

pub raise-requires-clause-rising : goal.raise-requires-clause-rising
raise-requires-clause-rising c =
    let at = goal.at.raise-requires-clause-rising c in
    row_rises c.self.inside.cuts c.args.unit (held at.After-row-row)

pub raise-requires-clause-within : goal.raise-requires-clause-within
raise-requires-clause-within c =
    let at = goal.at.raise-requires-clause-within c in
    rw c.as_mut_slice.ensures.value (within at.After-row-row)

pub raise-requires-clause-room : goal.raise-requires-clause-room
raise-requires-clause-room c =
    let at = goal.at.raise-requires-clause-room c in
    let inside = c.self.inside in
    rw c.as_mut_slice.ensures.value (row_room inside.out inside.cuts c.args.unit (held at.After-row-row)
    c.self.invariant.counted c.self.invariant.whole.ordered)

pub refresh-requires-clause-rising : goal.refresh-requires-clause-rising
refresh-requires-clause-rising c =
    let at = goal.at.refresh-requires-clause-rising c in
    row_rises c.self.inside.cuts c.args.unit (held at.After-row-row)

pub refresh-requires-clause-within : goal.refresh-requires-clause-within
refresh-requires-clause-within c =
    let at = goal.at.refresh-requires-clause-within c in
    rw (whole at.After-as_slice, ← (more at.After-raise).long) (within at.After-row-row)

pub refresh-requires-clause-least : goal.refresh-requires-clause-least
refresh-requires-clause-least c =
    let at = goal.at.refresh-requires-clause-least c in
    let inside = c.self.inside in
    rw (whole at.After-as_slice) (risen (more at.After-raise) c.self.invariant.blocks)

pub invariant_of-self : goal.invariant_of-self
invariant_of-self c =
    let at = goal.at.invariant_of-self c in
    let inside = c.self.inside in
    rw (c.remove.ensures.after) (written
    (take_at c.raise.new.counts _ _ (omega (arith, c.raise.auto.counts, c.as_mut_slice.ensures.len)))
    (record {
      whole = c.self.invariant.whole;
      counted = raised_counts inside.out inside.cuts c.args.unit (held at.After-row-row) c.self.invariant.counted
          c.self.invariant.whole.ordered (search rules) (more at.After-raise);
      blocks = rw (whole at.After-as_slice) at c.refresh.ensures;
      rows_of_units = c.self.invariant.rows_of_units;
    }))
