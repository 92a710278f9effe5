use Rattle.std.proofs.Common.{arith}
use Rattle.replay_semantics.proofs.HeldLemmas.{holds_none}
use Rattle.replay_semantics.proofs.replay.Replay.new.Goals as goal

pub invariant_of-result : goal.invariant_of-result
invariant_of-result c = (
  rw (
    c.in_ok-new.ensures.steps,
    c.in_ok-new.ensures.log,
    c.in_ok-with_capacity.ensures.items,
    c.in_ok-with_capacity-2.ensures.items,
  ) (holds_none c.units-units.ensures.kept c.in_ok-readers_of.ensures (omega arith)),
  omega (arith, c.in_ok-new.ensures.room),
  omega (arith, c.in_ok-with_capacity.ensures.exact),
  omega (arith, c.in_ok-with_capacity-2.ensures.exact),
)
