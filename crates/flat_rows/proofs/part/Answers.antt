use Rattle.std.proofs.Common.{length, refl}
use Rattle.flat_rows.proofs.RowsLemmas.{row_at, Rise-at}
use Rattle.flat_rows.proofs.part.Goals as goal

pub cut-requires-clause-order : goal.cut-requires-clause-order
cut-requires-clause-order g c =
    rw c.start.ensures (Rise-at 0 c.args.ends.now (length c.args.items.now) c.args.i c.requires.rise
    c.requires.within).0

pub cut-requires-clause-within : goal.cut-requires-clause-within
cut-requires-clause-within g c =
    (Rise-at 0 c.args.ends.now (length c.args.items.now) c.args.i c.requires.rise c.requires.within).1

pub returns : goal.returns
returns g c =
    rw (c.cut.ensures, c.start.ensures, row_at 0 c.args.ends.now c.args.items.now c.args.i c.requires.within) refl
