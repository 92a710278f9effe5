use Rattle.std.proofs.Common.{◌+◌, ◌≤◌, sym, arith}
use Rattle.zdd_shared_table.proofs.Rounds.{round-here, round-over}
use Rattle.zdd_shared_table.proofs.search.next.Goals as goal

pub returns-then-next-size : goal.returns-then-next-size
returns-then-next-size c = sym (round-here c.args.size (c.args.slot + 1) c.if-next-size.true)

pub returns-else-next-size : goal.returns-else-next-size
returns-else-next-size c =
    let over : c.args.size ≤ c.args.slot + 1 = c.if-next-size.false in
    let inside = c.requires in
    let e = round-over c.args.size (c.args.slot + 1) over in omega arith
