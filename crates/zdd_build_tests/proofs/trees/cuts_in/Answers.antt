use Rattle.tree_families.proofs.CutFamilies.{no_empty_set}
use Rattle.zdd_families.specs.Map.{family}
use Rattle.zdd_shared_table.specs.Seats.{map_of}
use Rattle.zdd_build_tests.proofs.trees.cuts_in.Goals as goal

pub list-requires-clause-filled : goal.list-requires-clause-filled
list-requires-clause-filled g c =
    no_empty_set c.args.tree.now c.args.tree.now.top (family (map_of c.build_within.new.seat) c.in_ok-top.top)
    c.units.ensures.kept c.in_ok-top.ensures.top.1
