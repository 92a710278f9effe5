use Rattle.std.proofs.Common.{◌≡◌, ◌++◌, drop}
use Rattle.outage_board.specs.Requests.{units_of}
use Rattle.outage_board.proofs.requests.gather.Given as goal

abbrev pub invariant-loop-name : goal.invariant-loop-name
invariant-loop-name l = units_of l.tree l.names ≡ l.units.items ++ units_of l.tree (drop l.name-index l.names)
