use Rattle.std.proofs.Common.{arith, ◌<◌, ℕ}
use Rattle.cutset_lists.proofs.MergeLemmas.{left_next, right_next}
use Rattle.cutset_lists.proofs.merge.merge.Goals as goal

pub loop-i-preserved-then-number : goal.loop-i-preserved-then-number
loop-i-preserved-then-number c =
    let x : ℕ = c.index-left-i.result in
    let y : ℕ = c.index-right-j.result in
    let below : x < y = omega (arith, c.number.ensures.value, c.number-in-loop-i.ensures.value) in
    record {
      left_short = omega arith;
      right_short = omega arith;
      merging =
          left_next c.push.new.self.items (omega arith) (omega arith) c.index-left-i.is c.index-right-j.is
          c.loop-i.invariant.merging
          c.in_ok-push.ensures.items below;
    }

pub loop-i-preserved : goal.loop-i-preserved
loop-i-preserved c =
    let x : ℕ = c.index-left-i.result in
    let y : ℕ = c.index-right-j.result in
    let below : y < x =
    omega (
      arith,
      c.number.ensures.value,
      c.number-in-loop-i.ensures.value,
      c.number-else-number.ensures.value,
      c.number-else-number-2.ensures.value,
    ) in
    record {
      left_short = omega arith;
      right_short = omega arith;
      merging =
          right_next c.push-else-number.new.self.items (omega arith) (omega arith) c.index-left-i.is c.index-right-j.is
          c.loop-i.invariant.merging c.in_ok-push-2.ensures.items below;
    }
