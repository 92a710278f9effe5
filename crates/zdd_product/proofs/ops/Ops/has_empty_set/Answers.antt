use Rattle.std.proofs.Common.{◌<◌, sym, ◌∙◌, subst, arith}
use Rattle.zdd_families.specs.Map.{Knows, family}
use Rattle.zdd_shared_table.specs.Seats.{Seated, map_of}
use Rattle.zdd_product.specs.Halves.{IsHalved}
use Rattle.zdd_product.proofs.WithoutParts.{empty_in_lo, empty_at_end}
use Rattle.zdd_product.proofs.ops.Ops.has_empty_set.Goals as goal

pub loop-self-preserved : goal.loop-self-preserved
loop-self-preserved c =
    let known = map_of c.args.self.now in
    let lowest = c.loop-self.lowest in
    let split = c.split_node-lowest.result in
    let cut = c.split_node-lowest.ensures in
    let same = c.loop-self.invariant.seat in
    record {
      seat = cut.seat ∙ same;
      knows = subst (λ (q : Seated). Knows (map_of q) split.half.lo) same cut.half.knows_lo;
      empty =
          c.loop-self.invariant.empty
          ∙ empty_in_lo
          (subst (λ (q : Seated). IsHalved split.level (family (map_of q) lowest) (family (map_of q) split.half.lo)
          (family (map_of q) split.half.hi)) same cut.half.halved);
    }

pub returns-clause-empty : goal.returns-clause-empty
returns-clause-empty c =
    let small : c.loop-self.lowest < 2 =
    let e = c.number.ensures.value in let h = c.loop-self-test.false in omega (arith, e, h) in
    c.eq.ensures ∙ (empty_at_end (map_of c.args.self.now) c.loop-self.lowest small ∙ sym c.loop-self.invariant.empty)
