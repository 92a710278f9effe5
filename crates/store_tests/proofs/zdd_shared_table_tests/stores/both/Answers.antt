use Rattle.std.proofs.{Common.sym, Common.subst, lemmas.Result.IfOk-weaker}
use Rattle.zdd_families.specs.{Family.IsAbove, Map.Knows}
use Rattle.zdd_families.proofs.MapLemmas.{family-unit}
use Rattle.zdd_shared_table.specs.Seats.{map_of}
use Rattle.store_tests.proofs.zdd_shared_table_tests.stores.both.Goals as goal

pub node-requires-clause-lo_above : goal.node-requires-clause-lo_above
node-requires-clause-lo_above c =
    subst (IsAbove c.args.low) (sym c.in_ok-second.ensures.known.1) ((c.requires.ordered, tt), tt)

pub node-requires-clause-hi_above : goal.node-requires-clause-hi_above
node-requires-clause-hi_above c = subst (IsAbove c.args.low) (sym (family-unit (map_of c.single.new.seat))) (tt, tt)

pub returns-clause-known : goal.returns-clause-known
returns-clause-known c =
    IfOk-weaker c.node.result _ (λ r. Knows (map_of c.node.new.seat) r) (λ r h. h.0) c.node.ensures.family
