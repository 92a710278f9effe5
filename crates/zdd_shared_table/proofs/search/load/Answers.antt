use Rattle.std.proofs.Common.{ℕ, subst}
use Rattle.zdd_shared_table.specs.Search.{IsSearch}
use Rattle.zdd_shared_table.proofs.Steps.{allows_load}
use Rattle.zdd_shared_table.proofs.search.load.Goals as goal

pub load-requires : goal.load-requires
load-requires g c =
    let asked = c.requires.asked in
    let seat = c.args.seat.now in (
      c.requires.own,
      c.requires.inside,
      allows_load c.args.words.now.table_id.slots seat.id seat.me.1
          (subst (λ (p : ℕ × ℕ). IsSearch c.args.words.now.key seat.me.0 p.0 p.1 c.args.slot)
          (λ i. (asked.0 i, asked.1 i)) c.requires.search),
    )
