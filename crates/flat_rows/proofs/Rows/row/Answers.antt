use Rattle.std.proofs.Common.{arith}
use Rattle.flat_rows.proofs.RowsLemmas.{length-rows_from}
use Rattle.flat_rows.proofs.Rows.row.Goals as goal

pub part-requires-clause-within : goal.part-requires-clause-within
part-requires-clause-within g c = grind (arith, length-rows_from 0 c.self.inside.ends.items c.self.inside.items.items)
