use Rattle.std.proofs.Common.{◌<◌, ◌∙◌, ◌+◌, List, ℕ, ap, sym, subst, length, arith}
use Rattle.replay_semantics.specs.{Readers.readers_in, Spread.Spread}
use Rattle.replay_semantics.proofs.SpreadLemmas.{enter, few_failed, more_again}
use Rattle.replay_semantics.proofs.failures.Failures.spread.Goals as goal

pub loop-next-smaller : goal.loop-next-smaller
loop-next-smaller c =
    let few =
    few_failed c.loop-next.invariant.more.can.kept in
    omega arith

pub loop-next-preserved : goal.loop-next-preserved
loop-next-preserved c = record {
  more = more_again c.loop-next.invariant.more c.reach_each.ensures.more;
  spreads = λ turn last spreading.
      let short : c.loop-next.next < length c.loop-next.self.log.items = omega arith in
      c.reach_each.ensures.spreads turn (c.loop-next.next + 1) last
      (subst (λ (row : List ℕ). Spread c.args.tree.now turn c.loop-next.self row (c.loop-next.next + 1))
      (sym (c.row.ensures ∙ ap (readers_in c.args.readers.now) c.number.ensures))
      (enter c.requires.readers short c.index-node.ensures (c.loop-next.invariant.spreads turn last spreading)));
}
