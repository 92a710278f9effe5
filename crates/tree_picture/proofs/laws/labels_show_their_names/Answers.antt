use Rattle.std.proofs.Common.{arith}
use Rattle.tree_picture.proofs.ShownLemmas.{gate_shown, small_node, unit_shown}
use Rattle.tree_picture.proofs.laws.labels_show_their_names.Goals as goal

pub returns-clause-units : goal.returns-clause-units
returns-clause-units c = λ tree marked kept unit is.
    unit_shown tree marked unit (small_node unit kept (is.0, omega (arith, is.1)))

pub returns-clause-gates : goal.returns-clause-gates
returns-clause-gates c = λ tree kept gate is. gate_shown gate kept is
