use Rattle.std.proofs.Common.{◌≡◌, ◌++◌, List, ℕ, [], ◌∷◌, length, get_or, All, ap, sym, ◌∙◌, subst, arith}
use Rattle.std.proofs.lemmas.List.{get_or_read, length_push}
use Rattle.fault_definitions.specs.{CutFamily.IsCutFamily, Trigger.below}
use Rattle.family_memory.specs.Memory.{Has, Gave, family_in}
use Rattle.family_memory.proofs.After.{Went-then}
use Rattle.many_families.specs.Lists.{families}
use Rattle.tree_families.specs.Recipe.{StandFor}
use Rattle.memory_tests.proofs.Reading.{AreRead, read_has, read_more, read_stand, some_of}
use Rattle.memory_tests.proofs.minimal_nodes_tests.families.+family_of.Goals as goal

pub loop-i-preserved : goal.loop-i-preserved
loop-i-preserved t c =
    let tree = c.args.tree.now in
    let nodes = below tree c.args.node in
    let inv = c.loop-i.invariant in
    let before = c.loop-i.memory in
    let after = c.family_of.new.memory in
    let list = c.loop-i.list.items in
    let one = c.in-Some.one in
    let same : c.index-nodes-i.result ≡ get_or nodes c.loop-i.i 0 =
    get_or_read c.below-nodes.result.now c.loop-i.i c.index-nodes-i.result c.loop-i-test.true c.index-nodes-i.is 0
    ∙ ap (λ (l : List ℕ). get_or l c.loop-i.i 0) c.below-nodes.ensures.below in
    let gave : Gave (IsCutFamily tree c.index-nodes-i.result) before after one =
    some_of (Gave (IsCutFamily tree c.index-nodes-i.result) before after) one c.in-Some.is c.in_ok-one.ensures.gives in
    let items : c.push.new.self.items ≡ list ++ one ∷ [] = c.in_ok-push.ensures.items in
    let more = length_push list one in
    let longer = ap (λ (l : List ℕ). length l) items in
    record {
      went = Went-then inv.went gave.went;
      count = let e = inv.count in omega (arith, e, more, longer);
      read = subst (AreRead after tree nodes) (sym items)
          (read_more inv.went.sound gave.went nodes list one inv.count inv.read gave.has
          (subst (λ (n : ℕ). IsCutFamily tree n (family_in after one)) same gave.is));
    }

pub cut_family-requires-clause-has : goal.cut_family-requires-clause-has
cut_family-requires-clause-has t c =
    subst (All (Has c.loop-i.memory)) (sym c.as_slice.ensures.value)
    (read_has c.loop-i.memory c.args.tree.now (below c.args.tree.now c.args.node) c.loop-i.list.items
    c.loop-i.invariant.read)

pub cut_family-requires-clause-stand : goal.cut_family-requires-clause-stand
cut_family-requires-clause-stand t c =
    let nodes = below c.args.tree.now c.args.node in
    let all = ap (λ (l : List ℕ). length l) c.below-nodes.ensures.below in
    subst (λ l. StandFor (IsCutFamily c.args.tree.now) nodes (families c.loop-i.memory l))
    (sym c.as_slice.ensures.value)
    (read_stand c.loop-i.memory c.args.tree.now nodes c.loop-i.list.items
    (let e = c.loop-i.invariant.count in let h = c.loop-i-test.false in omega (arith, e, h, all))
    c.loop-i.invariant.read)
