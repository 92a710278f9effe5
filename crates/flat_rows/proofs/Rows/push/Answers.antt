use Rattle.std.proofs.{Common.arith, Common.length, lemmas.Grind.common_steps}
use Rattle.flat_rows.proofs.RowsLemmas.{Rise-push, rows_from-push}
use Rattle.flat_rows.proofs.Rows.push.Goals as goal

pub invariant_of-self-2 : goal.invariant_of-self-2
invariant_of-self-2 g c =
    grind (
      arith,
      common_steps,
      Rise-push 0 c.self.inside.ends.items (length c.self.inside.items.items)
          (length c.args.row.now) c.self.invariant,
    )

pub returns-clause-ok : goal.returns-clause-ok
returns-clause-ok g c =
    grind (
      arith,
      common_steps,
      rows_from-push 0 c.self.inside.ends.items c.self.inside.items.items c.args.row.now
          c.self.invariant,
    )
