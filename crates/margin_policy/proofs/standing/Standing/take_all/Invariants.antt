use Rattle.std.proofs.Common.{◌≡◌, take}
use Rattle.margin_policy.specs.Held.{with_all_held}
use Rattle.margin_policy.proofs.standing.Standing.take_all.Given as goal

abbrev pub invariant-loop-unit : goal.invariant-loop-unit
invariant-loop-unit l =
    l.self ≡ record l.initial.self { held = with_all_held l.crew (take l.unit-index l.units) l.initial.self.held }
