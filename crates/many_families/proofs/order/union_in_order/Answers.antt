use Rattle.std.proofs.lemmas.List.Sorted.{All-permutation}
use Rattle.zdd_families.specs.Least.{IsLeastOfAll}
use Rattle.family_memory.specs.Memory.{Has}
use Rattle.many_families.specs.Lists.{families}
use Rattle.minimal_operations.proofs.Answering.{gives_of, spent_of}
use Rattle.many_families.proofs.Reordered.{union_reordered}
use Rattle.many_families.proofs.order.union_in_order.Goals as goal

pub unite_places-requires : goal.unite_places-requires
unite_places-requires c =
    All-permutation (Has c.args.memory.now) c.args.list.now c.put_in_order.new.places c.put_in_order.ensures
    c.requires.has

pub returns-clause-gives : goal.returns-clause-gives
returns-clause-gives c =
    union_reordered c.args.memory.now c.unite_places.new.memory c.put_in_order.ensures c.unite_places.result
    (gives_of (IsLeastOfAll (families c.args.memory.now c.put_in_order.new.places)) c.args.memory.now
    c.unite_places.new.memory c.unite_places.result c.unite_places.ensures)

pub returns-clause-spent : goal.returns-clause-spent
returns-clause-spent c =
    spent_of (IsLeastOfAll (families c.args.memory.now c.put_in_order.new.places)) c.args.memory.now
    c.unite_places.new.memory c.unite_places.result c.unite_places.ensures
