use Rattle.std.proofs.Common.{arith}
use Rattle.flat_rows.proofs.RowsLemmas.{length-rows_from}
use Rattle.flat_rows.proofs.Rows.len.Goals as goal

pub returns : goal.returns
returns g c = grind (arith, length-rows_from 0 c.self.inside.ends.items c.self.inside.items.items)
