use Rattle.std.proofs.Common.{◌≡◌, ℕ, suc, ◌-◌, length}
use Rattle.cutset_listing.specs.BySize.{at_size}
use Rattle.cutset_listing.proofs.found.Found.make_room.Given as goal

abbrev pub invariant-loop-alloc : goal.invariant-loop-alloc
invariant-loop-alloc l =
    record { same : (other : ℕ) → at_size l.self-inside.lists.items other ≡ at_size l.fn.self other }

abbrev pub decreases-loop-alloc : goal.decreases-loop-alloc
decreases-loop-alloc l = suc l.size - length l.self-inside.lists.items
