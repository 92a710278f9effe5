use Rattle.std.proofs.Common.{◌≡◌, ◌∙◌, ◌+◌, replicate, ap, arith}
use Rattle.fault_definitions.specs.Tree.{node_count}
use Rattle.zdd_build.proofs.TableLemmas.{built_none}
use Rattle.zdd_build.proofs.table.Table.new.Goals as goal

pub returns : goal.returns
returns c known =
    let nodes : c.units.result + c.gates.result ≡ node_count c.args.task.tree.now =
    (let u = c.units.ensures.count in let g = c.gates.ensures.count in omega (arith, u, g)) in
    built_none c.units.ensures.kept
    (c.in_ok-vec.ensures.items_if_clones_equal (λ y h. h) ∙ ap (λ n. replicate n 0) nodes)
    (c.in_ok-vec-2.ensures.items_if_clones_equal (λ y h. h))
