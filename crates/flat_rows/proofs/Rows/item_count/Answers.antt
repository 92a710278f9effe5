use Rattle.std.proofs.Common.{◌≡◌, ◌+◌, length, sum_by, arith, ◌∙◌, ap}
use Rattle.flat_rows.specs.Rows.{rows_from}
use Rattle.flat_rows.proofs.RowsLemmas.{items-rows_from}
use Rattle.flat_rows.proofs.Rows.item_count.Goals as goal

pub returns : goal.returns
returns g c =
    let total : sum_by length (rows_from 0 c.self.inside.ends.items c.self.inside.items.items) + 0
    ≡ length c.self.inside.items.items =
    items-rows_from 0 c.self.inside.ends.items c.self.inside.items.items c.self.invariant in
    let fields : c.len.result ≡ sum_by length (rows_from 0 c.self.inside.ends.items c.self.inside.items.items) =
    omega (arith, c.self.inside.items.ok.0, c.len.ensures) in
    fields ∙ ap (sum_by length) c.self.view_is
