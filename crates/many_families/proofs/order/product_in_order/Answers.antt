use Rattle.std.proofs.lemmas.List.Sorted.{All-permutation}
use Rattle.family_memory.specs.Memory.{Has}
use Rattle.many_families.proofs.Reordered.{product_reordered}
use Rattle.many_families.proofs.order.product_in_order.Goals as goal

pub product_of_all-requires : goal.product_of_all-requires
product_of_all-requires c =
    All-permutation (Has c.args.memory.now) c.args.list.now c.put_for_product.new.places c.put_for_product.ensures
    c.requires.has

pub returns-clause-gives : goal.returns-clause-gives
returns-clause-gives c =
    product_reordered c.args.memory.now c.product_of_all.new.memory
    c.put_for_product.ensures c.product_of_all.result c.product_of_all.ensures.gives
