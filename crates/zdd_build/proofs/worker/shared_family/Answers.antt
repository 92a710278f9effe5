use Rattle.std.proofs.Common.{IfOk, IfErr, subst}
use Rattle.fault_definitions.specs.CutFamily.{IsCutFamily}
use Rattle.tree_families.specs.Due.{IsDueToTree}
use Rattle.zdd_shared_table.specs.Seats.{Seated}
use Rattle.zdd_product.specs.Seats.{Gave, WasFull}
use Rattle.zdd_build.proofs.WorkerLemmas.{copied_full, copied_gives}
use Rattle.zdd_build.proofs.worker.shared_family.Goals as goal

pub returns-in-Ok-clause-gives : goal.returns-in-Ok-clause-gives
returns-in-Ok-clause-gives c =
    let tree = c.args.tree.now in
    let node = c.args.node in
    subst (λ (s : Seated). IfOk c.export.result (Gave (IsCutFamily tree node) (IsDueToTree tree) s c.export.new.ops))
    c.own_or_anew.ensures.keeps.ops (copied_gives c.units.ensures.kept c.requires.reads.is_node
    c.in-Ok.ensures.family c.own_or_anew.new.worker.ops c.export.new.ops c.export.result c.export.ensures.gives)

pub returns-in-Ok-clause-full : goal.returns-in-Ok-clause-full
returns-in-Ok-clause-full c =
    let tree = c.args.tree.now in
    let node = c.args.node in
    subst (λ (s : Seated). IfErr c.export.result (λ _. WasFull (IsDueToTree tree) s c.export.new.ops))
    c.own_or_anew.ensures.keeps.ops (copied_full c.units.ensures.kept c.requires.reads.is_node
    c.in-Ok.ensures.family c.own_or_anew.new.worker.ops c.export.new.ops c.export.result c.export.ensures.full)
