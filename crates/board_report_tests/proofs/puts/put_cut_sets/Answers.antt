use Rattle.std.proofs.Common.{subst, sym}
use Rattle.cut_texts.specs.OrdersOfUnits.{AreOrdersOf}
use Rattle.cut_texts.proofs.OrdersOfUnitsLemmas.{AreOrdersOf-order_lists}
use Rattle.board_report_tests.proofs.puts.put_cut_sets.Goals as goal

pub put_cuts-requires-clause-made : goal.put_cuts-requires-clause-made
put_cuts-requires-clause-made g c =
    subst (AreOrdersOf c.args.tree.now c.args.cuts.now) (sym c.in_ok-lists.ensures.listed)
    (AreOrdersOf-order_lists c.args.tree.now c.args.cuts.now c.in_ok-most.most c.requires.units)
