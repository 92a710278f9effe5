use Rattle.std.proofs.Common.{refl, sym, ◌∙◌}
use Rattle.cutset_lists.proofs.OverlapLemmas.{all_apart, apart_more, met_more, unit_twice}
use Rattle.cutset_lists.proofs.overlap.are_apart.Goals as goal

pub returns-then-some_marked : goal.returns-then-some_marked
returns-then-some_marked c = (
  λ no_claim. absurd cc,
  unit_twice c.loop-node-test.true c.node-item.is c.requires c.index.ensures
      c.index-lists-index.is c.items-units.ensures c.loop-node.invariant
      (sym c.some_marked.ensures ∙ c.if-some_marked.true),
)

pub loop-node-preserved : goal.loop-node-preserved
loop-node-preserved c = record {
  met =
      met_more c.loop-node-test.true c.node-item.is c.requires c.index.ensures
      c.index-lists-index.is c.items-units.ensures c.loop-node.invariant c.mark.new.marked c.mark.ensures;
  apart =
      apart_more c.loop-node-test.true c.node-item.is c.requires c.index.ensures
      c.index-lists-index.is c.items-units.ensures c.loop-node.invariant
      (sym c.some_marked.ensures ∙ c.if-some_marked.false);
}

pub returns : goal.returns
returns c = (
  λ _. all_apart c.loop-node-test.false c.loop-node.invariant,
  λ _. refl,
)
