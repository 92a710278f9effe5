use Rattle.std.proofs.Common.{◌-◌, length, take, drop, inl, inr, arith}
use Rattle.std.proofs.KnownBytes.{Appends-nil}
use Rattle.edge_io.proofs.WritingLemmas.{Written-none, Written-more, Written-front, Appends-nothing, left_all}
use Rattle.edge_io.proofs.writing.write_all.Goals as goal

pub loop-done-init : goal.loop-done-init
loop-done-init g c = Written-none

pub loop-done-preserved : goal.loop-done-preserved
loop-done-preserved g c =
    let bytes = c.args.bytes.now in
    let done = c.loop-done.done in
    let left = take (length bytes - done) (drop done bytes) in
    Written-more done
    c.in-Ok.count c.loop-done.invariant (left_all bytes done) (omega arith) c.in-Ok.ensures.bound c.in-Ok.ensures.added
    c.in-Ok.ensures.never_falls c.in-Ok.ensures.step

pub returns-in-Ok-eq0-clause-front : goal.returns-in-Ok-eq0-clause-front
returns-in-Ok-eq0-clause-front g c = (
  _,
  Written-front c.loop-done.done c.loop-done.invariant (rw c.in-Ok-eq0.field-0-test at c.in-Ok-eq0.ensures.added),
)

pub returns-in-Ok-eq0-clause-writes : goal.returns-in-Ok-eq0-clause-writes
returns-in-Ok-eq0-clause-writes g c =
    let rest = left_all c.args.bytes.now c.loop-done.done in (
      _,
      c.loop-done.sink,
      c.loop-done.invariant.run,
      inr (rw (rest, c.in-Ok-eq0.field-0-test) at c.in-Ok-eq0.ensures.step),
    )

pub returns-in-Err-clause-front : goal.returns-in-Err-clause-front
returns-in-Err-clause-front g c =
    let nothing =
    Appends-nothing (g.K.Sink.taken c.loop-done.sink) (g.K.Sink.taken c.write.new.self) c.in-Err.ensures.kept in (
      _,
      Written-front c.loop-done.done c.loop-done.invariant nothing,
    )

pub returns-in-Err-clause-writes : goal.returns-in-Err-clause-writes
returns-in-Err-clause-writes g c =
    let rest = left_all c.args.bytes.now c.loop-done.done in
    (_, c.loop-done.sink, c.loop-done.invariant.run, inl (rw rest at c.in-Err.ensures.step))

pub returns-clause-front : goal.returns-clause-front
returns-clause-front g c = (
  _,
  Written-front c.loop-done.done c.loop-done.invariant (Appends-nil (g.K.Sink.taken c.loop-done.sink)),
)
