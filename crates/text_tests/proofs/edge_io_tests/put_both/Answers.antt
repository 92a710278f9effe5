use Rattle.std.proofs.Common.{◌≡◌, arith}
use Rattle.edge_io.proofs.OutLemmas.{Puts-trans, Puts-finished}
use Rattle.text_tests.proofs.edge_io_tests.put_both.Goals as goal

pub returns : goal.returns
returns g c =
    let old = c.over-out.result in
    let mid = c.put.new.self in
    let out = c.put-2.new.self in
    let puts =
    Puts-trans c.put.ensures.puts c.put-2.ensures.puts in
    let end =
    Puts-finished c.finish.result c.over-out.ensures.nothing_waits c.over-out.ensures.fine puts
    c.finish.ensures.all c.finish.ensures.front.1 c.finish.ensures.rose c.finish.ensures.stopped
    c.finish.ensures.never_falls in
    let same : out.sink.ghost_name ≡ old.sink.ghost_name = puts.same_sink in
    let delivered = rw c.over-out.ensures.sink at end in
    record { delivers = grind (arith, delivered) }
