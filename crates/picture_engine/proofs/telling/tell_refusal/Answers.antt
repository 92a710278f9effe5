use Rattle.std.proofs.Common.{◌≡◌, arith}
use Rattle.edge_io.proofs.OutLemmas.{Puts-finished}
use Rattle.picture_engine.proofs.ToldLemmas.{noted}
use Rattle.picture_engine.proofs.telling.tell_refusal.Goals as goal

pub returns : goal.returns
returns g c =
    let old = c.over-out.result in
    let out = c.put_refusal.new.out in
    let end =
    Puts-finished c.finish.result c.over-out.ensures.nothing_waits c.over-out.ensures.fine c.put_refusal.ensures.puts
    c.finish.ensures.all c.finish.ensures.front.1 c.finish.ensures.rose c.finish.ensures.stopped
    c.finish.ensures.never_falls in
    let same : out.sink.ghost_name ≡ old.sink.ghost_name = c.put_refusal.ensures.puts.same_sink in
    let delivered = rw c.over-out.ensures.sink at end in
    let told = noted c.finish.result delivered in
    record { noted = grind (arith, told) }
