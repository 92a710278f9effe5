use Rattle.std.proofs.Common.{take}
use Rattle.residual_ledger.specs.Kept.{IsOneMore}
use Rattle.residual_ledger.proofs.counts.raise.Given as goal

abbrev pub invariant-loop-place : goal.invariant-loop-place
invariant-loop-place l = IsOneMore (take l.place-index l.row) l.initial.counts l.counts
