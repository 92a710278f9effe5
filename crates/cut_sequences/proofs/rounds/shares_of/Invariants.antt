use Rattle.std.proofs.Common.{◌≡◌, map}
use Rattle.cut_sequences.specs.declared.share.Work.{Work}
use Rattle.cut_sequences.proofs.rounds.shares_of.Given as goal

abbrev pub invariant-loop-work : goal.invariant-loop-work
invariant-loop-work l = l.shares.items ≡ map (λ (work : Work). work.share) l.yielded
