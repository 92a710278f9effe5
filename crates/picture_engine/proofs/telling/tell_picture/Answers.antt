use Rattle.std.proofs.Common.{◌≡◌, arith}
use Rattle.edge_io.proofs.OutLemmas.{Puts-finished}
use Rattle.picture_engine.proofs.ToldLemmas.{told_front, told_whole}
use Rattle.picture_engine.proofs.telling.tell_picture.Goals as goal

pub returns-in-Ok : goal.returns-in-Ok
returns-in-Ok g c =
    let old = c.over-out.result in
    let out = c.put_marked.new.out in
    let end =
    Puts-finished c.finish.result c.over-out.ensures.nothing_waits c.over-out.ensures.fine c.put_marked.ensures.puts
    c.finish.ensures.all c.finish.ensures.front.1 c.finish.ensures.rose c.finish.ensures.stopped
    c.finish.ensures.never_falls in
    let same : out.sink.ghost_name ≡ old.sink.ghost_name = c.put_marked.ensures.puts.same_sink in
    let delivered = rw c.over-out.ensures.sink at end in
    let told = told_whole _ c.in-Ok.is delivered in
    record { told = grind (arith, told) }

pub returns-in-Err : goal.returns-in-Err
returns-in-Err g c =
    let old = c.over-out.result in
    let out = c.put_marked.new.out in
    let end =
    Puts-finished c.finish.result c.over-out.ensures.nothing_waits c.over-out.ensures.fine c.put_marked.ensures.puts
    c.finish.ensures.all c.finish.ensures.front.1 c.finish.ensures.rose c.finish.ensures.stopped
    c.finish.ensures.never_falls in
    let same : out.sink.ghost_name ≡ old.sink.ghost_name = c.put_marked.ensures.puts.same_sink in
    let delivered = rw c.over-out.ensures.sink at end in
    let told = told_front _ c.in-Err.is delivered in
    record { told = grind (arith, told) }
