use Rattle.std.proofs.Common.{arith}
use Rattle.kept_answers.specs.declared.answers.Operation.TheVariants.{Product}
use Rattle.minimal_operations.proofs.Telling.{kept, recalled, told_made}
use Rattle.minimal_operations.proofs.Steps.{failed}
use Rattle.minimal_operations.proofs.BelowSteps.{lo_fewer, lo_below, hi_fewer, hi_below, parts_can, parts_multiplied}
use Rattle.minimal_operations.proofs.products_below.+product_below.Goals as goal

pub product_below-returns-in-Some-clause-gives : goal.product_below-returns-in-Some-clause-gives
product_below-returns-in-Some-clause-gives t c =
    c.in-Some.ensures c.args.memory.now
    (record { sound = c.is_sound.ensures; first = c.requires.has_a; second = c.requires.has_b })

pub product_below-returns-in-Some-recall-clause-gives : goal.product_below-returns-in-Some-recall-clause-gives
product_below-returns-in-Some-recall-clause-gives t c =
    recalled Product c.args.a c.args.b c.is_sound.ensures c.in-Some-recall.ensures

pub product_below-remember-requires : goal.product_below-remember-requires
product_below-remember-requires t c =
    told_made Product c.args.a c.args.b
    (record { sound = c.is_sound.ensures; first = c.requires.has_a; second = c.requires.has_b }) c.in_ok-made.ensures

pub product_below-returns-clause-gives : goal.product_below-returns-clause-gives
product_below-returns-clause-gives t c = kept c.remember.ensures c.in_ok-made.ensures

pub multiply_parts-product_below-requires : goal.multiply_parts-product_below-requires
multiply_parts-product_below-requires t c =
    let fewer = lo_fewer c.requires.nodes c.parts-one.ensures c.requires.below in
    let below = lo_below c.requires.nodes c.parts-one.ensures c.requires.below in
    (omega (arith, fewer), (c.parts-one.ensures.has_lo, (c.requires.nodes.has.second, below)))

pub multiply_parts-product_below-requires-2 : goal.multiply_parts-product_below-requires-2
multiply_parts-product_below-requires-2 t c =
    let gave = c.in_ok-lo.ensures.gives in
    let fewer = hi_fewer c.requires.nodes c.parts-one.ensures c.requires.below gave in
    let below = hi_below c.requires.nodes c.parts-one.ensures c.requires.below gave in
    let longer = gave.went.longer in
    let has = c.parts-one.ensures.has_hi in
    let has' = c.requires.nodes.has.second in
    (omega (arith, fewer), (omega (arith, longer, has), (omega (arith, longer, has'), below)))

pub multiply_parts-branch_node-requires : goal.multiply_parts-branch_node-requires
multiply_parts-branch_node-requires t c =
    let can = parts_can c.requires.nodes c.parts-one.ensures c.requires.below c.in_ok-lo.ensures.gives
    c.in_ok-hi.ensures.gives in
    record {
      has_lo = can.has_lo;
      has_hi = can.has_hi;
      lo_above = can.lo_above;
      hi_above = can.hi_above;
      antichain = can.antichain;
    }

pub multiply_parts-returns-in_err-hi : goal.multiply_parts-returns-in_err-hi
multiply_parts-returns-in_err-hi t c =
    failed _ _ c.from_residual-in_err-hi.result c.from_residual-in_err-hi.ensures.1 c.in_ok-lo.ensures.gives.went
    c.in_err-hi.ensures.spent

pub multiply_parts-returns : goal.multiply_parts-returns
multiply_parts-returns t c =
    parts_multiplied c.requires.nodes c.parts-one.ensures c.requires.below c.in_ok-lo.ensures.gives
    c.in_ok-hi.ensures.gives c.branch_node.new.memory c.branch_node.result c.branch_node.ensures
