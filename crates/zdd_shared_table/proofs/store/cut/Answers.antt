use Rattle.zdd_shared_table.proofs.Steps.{allows_split}
use Rattle.zdd_shared_table.proofs.store.cut.Goals as goal

pub split_seat-requires : goal.split_seat-requires
split_seat-requires g c =
    let seat = c.args.seat.now in
    (c.requires.own, c.requires.some, allows_split c.args.words.now.key seat.id seat.me.0 g.G.Given.share)
