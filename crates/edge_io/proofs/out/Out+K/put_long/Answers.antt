use Rattle.std.proofs.Common.{[], refl, sym}
use Rattle.edge_io.proofs.OutLemmas.{Puts-held, Puts-failed, Puts-trans}
use Rattle.edge_io.proofs.out.Out+K.put_long.Goals as goal

pub returns-in_err-write_waiting-clause-puts : goal.returns-in_err-write_waiting-clause-puts
returns-in_err-write_waiting-clause-puts g c =
    let mid = c.write_waiting.new.self in
    Puts-trans c.in_err-write_waiting.ensures.puts (Puts-failed (sym c.in_err-write_waiting.ensures.answer))

pub returns-then-bytes-lt-BUFFER_ROOM-clause-puts :
    goal.returns-then-bytes-lt-BUFFER_ROOM-clause-puts
returns-then-bytes-lt-BUFFER_ROOM-clause-puts g c =
    let mid = c.write_waiting.new.self in
    Puts-trans c.in_ok-write_waiting.ensures.puts (Puts-held refl c.add.ensures refl)

pub returns-clause-puts : goal.returns-clause-puts
returns-clause-puts g c =
    let mid = c.write_waiting.new.self in
    Puts-trans c.in_ok-write_waiting.ensures.puts c.write_now.ensures.puts
