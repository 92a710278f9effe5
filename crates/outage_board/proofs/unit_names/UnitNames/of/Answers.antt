use Rattle.std.proofs.Common.{sym, subst}
use Rattle.fault_definitions.specs.Tree.{unit_count}
use Rattle.outage_board.proofs.NameLemmas.{Differ, differ_first}
use Rattle.outage_board.proofs.unit_names.UnitNames.of.Goals as goal

pub of-requires : goal.of-requires
of-requires c =
    subst Differ (sym c.unit_names.ensures.names)
    (differ_first (unit_count c.args.tree.now) c.args.tree.now.names c.unit_names.ensures.kept.names_differ)
