use Rattle.std.proofs.Common.{ap, length, arith}
use Rattle.std.proofs.lemmas.List.{length_push}
use Rattle.replay_semantics.proofs.LogLemmas.{room_for_more, failed_more}
use Rattle.replay_semantics.proofs.failures.Failures.fail_first.Goals as goal

pub push_reserved-requires : goal.push_reserved-requires
push_reserved-requires c =
    let room =
    room_for_more c.requires.can.kept c.args.node c.requires.node c.requires.fresh in
    omega (arith, room, c.requires.can.room)

pub returns-clause-more : goal.returns-clause-more
returns-clause-more c = record {
  can = record {
    kept =
        rw (c.push_reserved.ensures.items, c.number.ensures) (failed_more c.requires.can.kept
        c.args.node c.requires.node c.requires.fresh c.args.at);
    room = omega (arith, c.push_reserved.ensures.capacity, c.requires.can.room);
  };
  longer =
      omega (arith, ap length c.push_reserved.ensures.items, length_push c.args.self.now.log.items c.args.node);
}
