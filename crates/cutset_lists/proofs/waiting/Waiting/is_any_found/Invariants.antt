use Rattle.std.proofs.Common.{◌≡◌, take, false}
use Rattle.std.specs.List.{list_any}
use Rattle.cutset_lists.specs.{declared.waiting.Waiter.Waiter, Sets.is_short_within, Waiting.set_at}
use Rattle.cutset_lists.proofs.waiting.Waiting.is_any_found.Given as goal

abbrev pub invariant-loop-waiter : goal.invariant-loop-waiter
invariant-loop-waiter l =
    list_any (λ (waiter : Waiter). is_short_within l.size l.marked (set_at l.sets waiter.place))
    (take l.waiter-index l.waiters) ≡ false
