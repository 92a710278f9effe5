use Rattle.std.proofs.lemmas.List.Sorted.{IsPermutation-trans}
use Rattle.many_families.proofs.order.put_for_product.Goals as goal

pub returns-then-are_single_units : goal.returns-then-are_single_units
returns-then-are_single_units c =
    IsPermutation-trans c.args.list.now c.put_in_order.new.places c.reverse.new.self c.put_in_order.ensures
    c.reverse.ensures.permutation
