use Rattle.std.proofs.Common.{[], ◌∷◌, sym, ◌∙◌, subst}
use Rattle.std.proofs.lemmas.Result.{IfOk-weaker}
use Rattle.zdd_families.specs.{Family.IsAbove, Family.branch, Map.KnowsAs, Map.family}
use Rattle.zdd_families.proofs.MapLemmas.{family-empty, family-unit}
use Rattle.zdd_shared_table.specs.Seats.{map_of}
use Rattle.store_tests.proofs.zdd_shared_table_tests.asking.single.Goals as goal

pub node-requires-clause-lo_above : goal.node-requires-clause-lo_above
node-requires-clause-lo_above c = subst (IsAbove c.args.level) (sym (family-empty (map_of c.args.seat.now))) tt

pub node-requires-clause-hi_above : goal.node-requires-clause-hi_above
node-requires-clause-hi_above c = subst (IsAbove c.args.level) (sym (family-unit (map_of c.args.seat.now))) (tt, tt)

pub returns-clause-known : goal.returns-clause-known
returns-clause-known c =
    let known = map_of c.args.seat.now in
    IfOk-weaker c.node.result
    (λ r. KnowsAs (map_of c.node.new.seat) r (branch c.args.level (family known 0) (family known 1)))
    (λ r. KnowsAs (map_of c.node.new.seat) r ((c.args.level ∷ []) ∷ []))
    (λ r h. (h.0, h.1 ∙ (λ i. branch c.args.level (family-empty known i) (family-unit known i))))
    c.node.ensures.family
