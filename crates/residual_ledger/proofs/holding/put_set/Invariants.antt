use Rattle.std.proofs.Common.{take}
use Rattle.residual_ledger.specs.Residual.{cut_at}
use Rattle.residual_ledger.proofs.FillingLemmas.{IsPutting}
use Rattle.residual_ledger.proofs.holding.put_set.Given as goal

abbrev pub invariant-loop-unit : goal.invariant-loop-unit
invariant-loop-unit l = IsPutting l.cuts l.place (take l.unit-index (cut_at l.cuts l.place)) l.ends l.rows
