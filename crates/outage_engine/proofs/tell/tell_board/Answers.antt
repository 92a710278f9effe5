use Rattle.std.proofs.Common.{◌≡◌, arith}
use Rattle.outage_engine.proofs.tell.tell_board.Goals as goal

pub returns : goal.returns
returns g c =
    let old = c.over-out.result in
    let out = c.put_listing_and_board.new.out in
    let same : out.sink.ghost_name ≡ old.sink.ghost_name = c.put_listing_and_board.ensures.puts.same_sink in
    let told =
    rw c.over-out.ensures.sink at (c.finish.ensures.told old _ c.over-out.ensures.nothing_waits
    c.over-out.ensures.fine c.put_listing_and_board.ensures.puts) in
    record { told = grind (arith, told) }
