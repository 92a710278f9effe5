use Rattle.std.proofs.Common.{◌≡◌, subst}
use Rattle.fault_definitions.specs.Tree.{FaultTree}
use Rattle.outage_board.specs.Requests.{unit_of}
use Rattle.outage_board.proofs.NameLemmas.{number_is}
use Rattle.outage_board.proofs.unit_names.UnitNames.unit.Goals as goal

pub returns : goal.returns
returns c =
    subst (λ (tree : FaultTree). c.new.result ≡ unit_of tree c.args.name.now) c.self.view_is
    (number_is c.units.ensures.kept c.self.invariant c.args.name.now c.number.ensures c.new.result c.new.ensures.valid
    c.new.ensures.value)
