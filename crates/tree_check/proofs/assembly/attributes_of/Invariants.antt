use Rattle.std.proofs.Common.{◌≡◌, ◌++◌}
use Rattle.std.specs.Vec.Iter.{into_iter_items}
use Rattle.tree_check.specs.Assembling.{attributes_in}
use Rattle.tree_check.proofs.assembly.attributes_of.Given as goal

abbrev pub invariant-loop-raw : goal.invariant-loop-raw
invariant-loop-raw l = l.list ++ attributes_in (into_iter_items l.raw-iterator) ≡ attributes_in l.fn.raws
