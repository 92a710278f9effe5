use Rattle.std.proofs.Common.{◌∙◌, ap, sym, flat_map}
use Rattle.flat_rows.proofs.RowsLemmas.{joined-rows_from}
use Rattle.flat_rows.proofs.Rows.items.Goals as goal

pub returns : goal.returns
returns g c =
    c.deref.ensures.value ∙ sym (joined-rows_from 0 c.self.inside.ends.items c.self.inside.items.items c.self.invariant)
    ∙ ap (flat_map (λ row. row)) c.self.view_is
