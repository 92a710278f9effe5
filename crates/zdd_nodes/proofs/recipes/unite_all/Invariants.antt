use Rattle.std.proofs.Common.{take}
use Rattle.tree_families.specs.{Due.IsDueToUnions, Recipe.IsUnionOfAll}
use Rattle.zdd_families.specs.Map.{family}
use Rattle.zdd_shared_table.specs.Seats.{map_of}
use Rattle.zdd_product.specs.{Seats.Gave, Voting.families}
use Rattle.zdd_nodes.proofs.recipes.unite_all.Given as goal

abbrev pub invariant-loop-i : goal.invariant-loop-i
invariant-loop-i l =
    let start = map_of l.initial.ops in
    let first = family start l.fn.first in
    let all = families start l.others in
    record {
      so_far : Gave (IsUnionOfAll first (take l.i all)) (IsDueToUnions first all) l.initial.ops l.ops l.made;
    }
