use Rattle.std.proofs.Common.{◌≡◌, drop}
use Rattle.std.specs.List.{flat_map}
use Rattle.tree_check.specs.{Numbered.kinds, Classes.first, Tried.places_at}
use Rattle.tree_check.proofs.gates.first_at_gates.Given as goal

abbrev pub invariant-loop-gate : goal.invariant-loop-gate
invariant-loop-gate l =
    first (flat_map (places_at l.code l.units (kinds l.gates)) (drop l.gate-index l.gates))
    ≡ first (flat_map (places_at l.code l.units (kinds l.gates)) l.gates)
