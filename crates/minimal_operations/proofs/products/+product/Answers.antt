use Rattle.std.proofs.{Common.arith, lemmas.Result.MatchResult-from_both}
use Rattle.zdd_families.specs.Least.{IsLeastProduct}
use Rattle.zdd_families.proofs.Ends.{least_product-swap}
use Rattle.kept_answers.specs.declared.answers.Operation.TheVariants.{Product}
use Rattle.minimal_operations.proofs.Telling.{kept, recalled, told_made}
use Rattle.minimal_operations.proofs.Steps.{failed, higher_lo_fewer, los_fewer}
use Rattle.minimal_operations.proofs.Swapping.{swapped}
use Rattle.minimal_operations.proofs.ProductSteps.{as_levels, both_can, both_multiplied, first_parts, second_parts}
use Rattle.minimal_operations.proofs.ProductSteps.{sides_fewer, sides_multiplied, higher_all_fewer, higher_can}
use Rattle.minimal_operations.proofs.ProductSteps.{higher_multiplied}
use Rattle.minimal_operations.proofs.products.+product.Goals as goal

pub product-returns-in-Some-clause-gives : goal.product-returns-in-Some-clause-gives
product-returns-in-Some-clause-gives t c =
    c.in-Some.ensures c.args.memory.now
    (record { sound = c.is_sound.ensures; first = c.requires.has_a; second = c.requires.has_b })

pub product-returns-in-Some-recall-clause-gives : goal.product-returns-in-Some-recall-clause-gives
product-returns-in-Some-recall-clause-gives t c =
    recalled Product c.args.a c.args.b c.is_sound.ensures c.in-Some-recall.ensures

pub product-remember-requires : goal.product-remember-requires
product-remember-requires t c =
    told_made Product c.args.a c.args.b
    (record { sound = c.is_sound.ensures; first = c.requires.has_a; second = c.requires.has_b }) c.in_ok-made.ensures

pub product-returns-clause-gives : goal.product-returns-clause-gives
product-returns-clause-gives t c = kept c.remember.ensures c.in_ok-made.ensures

pub multiply_levels-returns-then-second-first : goal.multiply_levels-returns-then-second-first
multiply_levels-returns-then-second-first t c =
    swapped IsLeastProduct c.args.memory.now c.multiply_above-then-second-first.new.memory c.args.a c.args.b
    c.multiply_above-then-second-first.result least_product-swap c.multiply_above-then-second-first.ensures

pub multiply_both-product-requires : goal.multiply_both-product-requires
multiply_both-product-requires t c =
    let fewer = los_fewer c.requires c.parts-one.ensures c.parts-other.ensures in
    (omega (arith, fewer), (c.parts-one.ensures.has_lo, c.parts-other.ensures.has_lo))

pub multiply_both-multiply_sides-requires : goal.multiply_both-multiply_sides-requires
multiply_both-multiply_sides-requires t c =
    let one = c.parts-one.ensures in
    let other = c.parts-other.ensures in
    let same = as_levels c.requires one other in
    let gave = c.in_ok-lo.ensures.gives in
    (omega (arith, same), (first_parts c.requires one other gave, second_parts c.requires one other gave))

pub multiply_both-make_rid-requires : goal.multiply_both-make_rid-requires
multiply_both-make_rid-requires t c =
    both_can c.requires c.parts-one.ensures c.parts-other.ensures c.in_ok-lo.ensures.gives c.in_ok-all.ensures

pub multiply_both-returns-in_err-all : goal.multiply_both-returns-in_err-all
multiply_both-returns-in_err-all t c =
    failed _ _ c.from_residual-in_err-all.result c.from_residual-in_err-all.ensures.1 c.in_ok-lo.ensures.gives.went
    c.in_err-all.ensures

pub multiply_both-returns : goal.multiply_both-returns
multiply_both-returns t c =
    both_multiplied c.requires c.parts-one.ensures c.parts-other.ensures c.in_ok-lo.ensures.gives c.in_ok-all.ensures
    c.make_rid.new.memory c.make_rid.result c.make_rid.ensures

pub multiply_sides-product-requires : goal.multiply_sides-product-requires
multiply_sides-product-requires t c =
    let first = c.in_ok-first.ensures.gives in
    let second = c.in_ok-second.ensures.gives in
    let fewer = sides_fewer c.requires.first c.requires.second first second in
    let longer = second.went.longer in
    let has = first.has in
    (omega (arith, fewer), (omega (arith, longer, has), second.has))

pub multiply_sides-returns-in_err-second : goal.multiply_sides-returns-in_err-second
multiply_sides-returns-in_err-second t c =
    failed _ _ c.from_residual-in_err-second.result c.from_residual-in_err-second.ensures.1
    c.in_ok-first.ensures.gives.went c.in_err-second.ensures.spent

pub multiply_sides-returns : goal.multiply_sides-returns
multiply_sides-returns t c =
    sides_multiplied c.requires.first c.requires.second c.in_ok-first.ensures.gives c.in_ok-second.ensures.gives
    c.product.new.memory c.product.result
    (MatchResult-from_both c.product.result _ _ c.product.ensures.gives c.product.ensures.spent)

pub multiply_above-product-requires : goal.multiply_above-product-requires
multiply_above-product-requires t c =
    let fewer = higher_lo_fewer c.requires c.parts-one.ensures in
    (omega (arith, fewer), (c.parts-one.ensures.has_lo, c.requires.has.second))

pub multiply_above-product-requires-2 : goal.multiply_above-product-requires-2
multiply_above-product-requires-2 t c =
    let fewer = higher_all_fewer c.requires c.parts-one.ensures c.in_ok-lo.ensures.gives in
    let longer = c.in_ok-lo.ensures.gives.went.longer in
    let has = c.parts-one.ensures.has_hi in
    let has' = c.requires.has.second in
    (omega (arith, fewer), (omega (arith, longer, has), omega (arith, longer, has')))

pub multiply_above-make_rid-requires : goal.multiply_above-make_rid-requires
multiply_above-make_rid-requires t c =
    higher_can c.requires c.parts-one.ensures c.in_ok-lo.ensures.gives c.in_ok-all.ensures.gives

pub multiply_above-returns-in_err-all : goal.multiply_above-returns-in_err-all
multiply_above-returns-in_err-all t c =
    failed _ _ c.from_residual-in_err-all.result c.from_residual-in_err-all.ensures.1 c.in_ok-lo.ensures.gives.went
    c.in_err-all.ensures.spent

pub multiply_above-returns : goal.multiply_above-returns
multiply_above-returns t c =
    higher_multiplied c.requires c.parts-one.ensures c.in_ok-lo.ensures.gives c.in_ok-all.ensures.gives
    c.make_rid.new.memory c.make_rid.result c.make_rid.ensures
