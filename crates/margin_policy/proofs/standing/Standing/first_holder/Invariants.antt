use Rattle.std.proofs.Common.{◌≡◌, drop}
use Rattle.margin_policy.specs.Held.{first_holder}
use Rattle.margin_policy.proofs.standing.Standing.first_holder.Given as goal

abbrev pub invariant-loop-unit : goal.invariant-loop-unit
invariant-loop-unit l = first_holder l.self.held l.units ≡ first_holder l.self.held (drop l.unit-index l.units)
