use Rattle.std.proofs.Common.{arith}
use Rattle.many_families.proofs.JoinSteps.{joined_end, lo_fewer, lo_is_below, hi_lies_below, joined_can, joined_below}
use Rattle.many_families.proofs.votes.+join_below.Goals as goal

pub returns-then-number-lt2 : goal.returns-then-number-lt2
returns-then-number-lt2 t c =
    joined_end c.args.voter c.args.fewer c.requires.has.sound c.requires.has.has_same
    (let e = c.number.ensures.value in let h = c.if-number-lt2.true in omega (arith, e, h)) c.requires.below

pub join_below-requires : goal.join_below-requires
join_below-requires t c =
    let fewer = lo_fewer c.requires.has c.parts-one.ensures c.requires.below in (
      omega (arith, fewer),
      (
        record {
          sound = c.requires.has.sound;
          has_voter = c.parts-one.ensures.has_lo;
          has_same = c.requires.has.has_same;
          has_fewer = c.requires.has.has_fewer;
        },
        lo_is_below c.requires.has c.parts-one.ensures c.requires.below,
      ),
    )

pub product_below-requires-clause-below : goal.product_below-requires-clause-below
product_below-requires-clause-below t c =
    hi_lies_below c.requires.has c.parts-one.ensures c.requires.below c.in_ok-lo.ensures

pub branch_node-requires : goal.branch_node-requires
branch_node-requires t c =
    let can = joined_can c.requires.has c.parts-one.ensures c.requires.below c.in_ok-lo.ensures
    c.in_ok-hi.ensures.gives in
    record {
      has_lo = can.has_lo;
      has_hi = can.has_hi;
      lo_above = can.lo_above;
      hi_above = can.hi_above;
      antichain = can.antichain;
    }

pub returns : goal.returns
returns t c =
    joined_below c.requires.has c.parts-one.ensures c.requires.below c.in_ok-lo.ensures c.in_ok-hi.ensures.gives
    c.branch_node.new.memory c.branch_node.result c.branch_node.ensures
