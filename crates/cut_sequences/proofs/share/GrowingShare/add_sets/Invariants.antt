use Rattle.std.proofs.Common.{◌≡◌, ◌-◌}
use Rattle.cut_sequences.specs.Working.{CanGrow, lists_due, whole, work_of}
use Rattle.cut_sequences.proofs.share.GrowingShare.add_sets.Given as goal

abbrev pub invariant-loop-next : goal.invariant-loop-next
invariant-loop-next l = record {
  grows : CanGrow l.sets l.self;
  listed :
      whole (lists_due l.sets) l.workers (work_of l.self l.next)
      ≡ whole (lists_due l.sets) l.workers (work_of l.initial.self l.from);
}

abbrev pub decreases-loop-next : goal.decreases-loop-next
decreases-loop-next l = l.stop.place - l.next
