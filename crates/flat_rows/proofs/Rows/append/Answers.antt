use Rattle.std.proofs.{Common.arith, Common.length, lemmas.Grind.common_steps}
use Rattle.flat_rows.proofs.RowsLemmas.{Rise-append, rows_from-append}
use Rattle.flat_rows.proofs.Rows.append.Goals as goal

pub invariant_of-self-2 : goal.invariant_of-self-2
invariant_of-self-2 g c =
    grind (
      arith,
      common_steps,
      Rise-append 0 c.self.inside.ends.items (length c.self.inside.items.items) c.other.inside.ends.items
          (length c.other.inside.items.items) c.self.invariant c.other.invariant,
    )

pub returns-clause-ok : goal.returns-clause-ok
returns-clause-ok g c =
    grind (
      arith,
      common_steps,
      rows_from-append 0 c.self.inside.ends.items c.self.inside.items.items c.other.inside.ends.items
          c.other.inside.items.items c.self.invariant,
    )
