use Rattle.std.proofs.Common.{◌≡◌, length, filter, take}
use Rattle.unit_sets.specs.UnitList.{among}
use Rattle.residual_ledger.proofs.ledger.count_asked.Given as goal

abbrev pub invariant-loop-unit : goal.invariant-loop-unit
invariant-loop-unit l = l.count ≡ length (filter (among l.asked) (take l.unit-index l.members))
