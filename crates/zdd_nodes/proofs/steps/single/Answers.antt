use Rattle.std.proofs.Common.{◌≡◌, sym, ◌∙◌, subst, arith}
use Rattle.std.proofs.lemmas.Result.{IfOk-weaker}
use Rattle.tree_families.specs.Recipe.{alone}
use Rattle.zdd_words.specs.{Reference.IsReference, Word.packed}
use Rattle.zdd_families.specs.{Family.IsAbove, Family.branch, Map.KnowsAs, Map.family}
use Rattle.zdd_families.proofs.MapLemmas.{family-empty, family-unit}
use Rattle.zdd_shared_table.specs.Seats.{map_of}
use Rattle.zdd_product.specs.Seats.{word_family}
use Rattle.zdd_product.proofs.After.{node_made, word_family-packed}
use Rattle.zdd_nodes.proofs.steps.single.Goals as goal

pub node-requires-clause-lo_above : goal.node-requires-clause-lo_above
node-requires-clause-lo_above c = subst (IsAbove c.args.unit) (sym (family-empty (map_of c.args.ops.now))) tt

pub node-requires-clause-hi_above : goal.node-requires-clause-hi_above
node-requires-clause-hi_above c = subst (IsAbove c.args.unit) (sym (family-unit (map_of c.args.ops.now))) (tt, tt)

pub returns : goal.returns
returns c =
    let old = map_of c.args.ops.now in
    let new = map_of c.node.new.self in
    let unit = c.args.unit in
    let none : IsReference 0 = omega arith in
    let empty : IsReference 1 = omega arith in
    let word : word_family new (packed unit 0 1) ≡ alone unit =
    word_family-packed new unit 0 1 none empty ∙ (λ i. branch unit (family-empty new i) (family-unit new i)) in
    node_made c.args.ops.now c.node.new.self (packed unit 0 1) c.node.ensures.store c.node.ensures.share
    c.node.ensures.keeps c.node.ensures.sound word c.node.result
    (IfOk-weaker c.node.result (λ r. KnowsAs new r (branch unit (family old 0) (family old 1)))
    (λ r. KnowsAs new r (alone unit)) (λ r h. (
      h.0,
      h.1 ∙ (λ i. branch unit (family-empty old i) (family-unit old i)),
    )) c.node.ensures.family)
    c.node.ensures.fills c.node.ensures.fulls c.node.ensures.missed
