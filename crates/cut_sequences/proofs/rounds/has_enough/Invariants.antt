use Rattle.std.proofs.Common.{◌≤◌, All, take}
use Rattle.cut_sequences.specs.declared.share.Work.{Work}
use Rattle.cut_sequences.proofs.rounds.has_enough.Given as goal

abbrev pub invariant-loop-work : goal.invariant-loop-work
invariant-loop-work l = All (λ (work : Work). l.stop.place ≤ work.next) (take l.work-index l.works)
