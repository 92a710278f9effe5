use Rattle.std.proofs.Common.{◌≡◌, length, ap, ◌∙◌, arith}
use Rattle.crew_script.specs.{Dockets.crew_at, declared.dockets.Ask.TheVariants.Margin}
use Rattle.outage_board.specs.Requests.{request_of}
use Rattle.outage_board.proofs.TakeLemmas.{map_take_length, map_take_more}
use Rattle.outage_board.proofs.requests.requests_of.Goals as goal

pub push_reserved-requires : goal.push_reserved-requires
push_reserved-requires c =
    let made : length c.loop-place.requests.items ≡ c.loop-place.place =
    map_take_length (request_of c.args.tree.now) (crew_at c.args.dockets.now c.args.crew.0).docket c.loop-place.place
    (omega arith) c.loop-place.invariant.made in
    omega (arith, c.loop-place-test.true, c.loop-place.invariant.room)

pub loop-place-preserved : goal.loop-place-preserved
loop-place-preserved c =
    let same = c.push_reserved.ensures.capacity in
    let room = c.loop-place.invariant.room in
    record {
      made = map_take_more (request_of c.args.tree.now) (crew_at c.args.dockets.now c.args.crew.0).docket
          c.loop-place.place (Margin 0) (omega arith) c.loop-place.invariant.made
          (c.in_ok-request_of.ensures ∙ ap (request_of c.args.tree.now) c.ask.ensures.ask)
          c.push_reserved.ensures.items;
      room = omega arith;
    }
