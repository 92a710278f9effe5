use Rattle.std.proofs.Common.{take}
use Rattle.residual_ledger.specs.Kept.{IsOneMore}
use Rattle.residual_ledger.proofs.holding.count_members.Given as goal

abbrev pub invariant-loop-unit : goal.invariant-loop-unit
invariant-loop-unit l = IsOneMore (take l.unit-index l.members) l.initial.sizes l.sizes
