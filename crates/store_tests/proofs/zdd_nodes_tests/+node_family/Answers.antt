use Rattle.std.proofs.Common.{◌≡◌, ◌≢◌, ◌∙◌, ◌<◌, ◌-◌, ℕ, List, All, length, length-set, get_or, subst, sym, ap, arith}
use Rattle.std.proofs.lemmas.List.{get_or_read}
use Rattle.fault_definitions.specs.{CutFamily.IsCutFamily, Tree.IsNodeOf, Trigger.below}
use Rattle.zdd_shared_table.specs.Seats.{map_of}
use Rattle.zdd_product.specs.Seats.{KnowsOne}
use Rattle.zdd_nodes.specs.Reading.{KnowsBelow}
use Rattle.store_tests.proofs.Reading.{read_below, read_more, some_of}
use Rattle.store_tests.proofs.zdd_nodes_tests.+node_family.Goals as goal

pub loop-i-preserved : goal.loop-i-preserved
loop-i-preserved t c =
    let tree = c.args.tree.now in
    let nodes = below tree c.args.node in
    let inv = c.loop-i.invariant in
    let i = c.loop-i.i in
    let list = c.loop-i.list.items in
    let before = c.loop-i.ops in
    let after = c.node_family.new.ops in
    let one = c.in-Some.one in
    let is_below = c.below-nodes.ensures.below in
    let all : All (IsNodeOf tree) nodes = subst (All (IsNodeOf tree)) is_below c.below-nodes.ensures.nodes in
    let more : i < length nodes =
    (let h = c.loop-i-test.true in let e = ap (λ (l : List ℕ). length l) is_below in omega (arith, h, e)) in
    let same : c.index-nodes-i.result ≡ get_or nodes i 0 =
    get_or_read c.below-nodes.result.now i c.index-nodes-i.result c.loop-i-test.true c.index-nodes-i.is 0
    ∙ ap (λ (l : List ℕ). get_or l i 0) is_below in
    let again : c.index-nodes-i-in-loop-i.result ≡ get_or nodes i 0 =
    get_or_read c.below-nodes.result.now i c.index-nodes-i-in-loop-i.result c.loop-i-test.true
    c.index-nodes-i-in-loop-i.is 0 ∙ ap (λ (l : List ℕ). get_or l i 0) is_below in
    let at : c.index.result ≡ get_or nodes i 0 - 1 = c.index.ensures ∙ ap (λ (n : ℕ). n - 1) again in
    let within : c.index.result < length list =
    (let node = all i 0 more in let low = node.0 in let high = node.1 in let e = inv.count in
    omega (arith, low, high, e, at)) in
    let known : KnowsOne (map_of after) one (IsCutFamily tree c.index-nodes-i.result) =
    some_of (λ (r : ℕ). KnowsOne (map_of after) r (IsCutFamily tree c.index-nodes-i.result)) one
    c.in-Some.is c.in_ok-one.ensures.gives in
    record {
      keeps = λ r has.
          c.in_ok-one.ensures.keeps r (subst (λ (n : ℕ). n ≢ 0) (sym (inv.keeps r has)) has) ∙ inv.keeps r has;
      sound = c.in_ok-one.ensures.sound;
      room = c.in_ok-one.ensures.room;
      count = length-set list c.index.result one ∙ inv.count;
      read =
          read_more before after inv.sound c.in_ok-one.ensures.sound c.in_ok-one.ensures.keeps tree nodes list all i one
          more at within inv.read
          (subst (λ (n : ℕ). KnowsOne (map_of after) one (IsCutFamily tree n)) same known);
    }

pub cut_family-requires-clause-below : goal.cut_family-requires-clause-below
cut_family-requires-clause-below t c =
    let tree = c.args.tree.now in
    let e = ap (λ (l : List ℕ). length l) c.below-nodes.ensures.below in
    subst (λ (l : List ℕ). KnowsBelow (map_of c.loop-i.ops) tree l c.args.node) (sym c.as_slice.ensures.value)
    (read_below c.loop-i.ops tree c.args.node c.loop-i.list.items c.loop-i.i
    (let h = c.loop-i-test.false in omega (arith, h, e)) c.loop-i.invariant.read)
