use Rattle.std.proofs.Common.{◌≡◌, [], length, arith}
use Rattle.outage_board.specs.Requests.{requests_of}
use Rattle.outage_board.proofs.TakeLemmas.{map_take_length, map_take_more}
use Rattle.outage_board.proofs.requests.requests_by.Goals as goal

pub push_reserved-requires : goal.push_reserved-requires
push_reserved-requires c =
    let made : length c.loop-crew.all.items ≡ c.loop-crew.crew =
    map_take_length (requests_of c.args.tree.now) c.args.dockets.now c.loop-crew.crew (omega arith)
    c.loop-crew.invariant.made in
    omega (arith, c.loop-crew-test.true, c.loop-crew.invariant.room)

pub loop-crew-preserved : goal.loop-crew-preserved
loop-crew-preserved c =
    let same = c.push_reserved.ensures.capacity in
    let room = c.loop-crew.invariant.room in
    record {
      made = map_take_more (requests_of c.args.tree.now) c.args.dockets.now c.loop-crew.crew
          (record { name = []; docket = [] }) (omega arith) c.loop-crew.invariant.made
          c.in_ok-requests_of.ensures c.push_reserved.ensures.items;
      room = omega arith;
    }
