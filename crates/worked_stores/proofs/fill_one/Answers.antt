use Rattle.std.proofs.Common.{sym, subst}
use Rattle.zdd_families.specs.Family.{IsAbove}
use Rattle.zdd_families.proofs.MapLemmas.{family-empty, family-unit}
use Rattle.zdd_shared_table.specs.Seats.{map_of}
use Rattle.worked_stores.proofs.fill_one.Goals as goal

pub node-requires-clause-lo_above : goal.node-requires-clause-lo_above
node-requires-clause-lo_above c = subst (IsAbove c.args.level) (sym (family-empty (map_of c.args.seat.now))) tt

pub node-requires-clause-hi_above : goal.node-requires-clause-hi_above
node-requires-clause-hi_above c = subst (IsAbove c.args.level) (sym (family-unit (map_of c.args.seat.now))) (tt, tt)
