use Rattle.std.proofs.Common.{true, subst, sym}
use Rattle.zdd_shared_table.specs.Seats.{Seated, map_of}
use Rattle.zdd_build.specs.Building.{CanRead}
use Rattle.zdd_build.proofs.WorkerLemmas.{on_full, on_gave}
use Rattle.zdd_build.proofs.worker.make.Goals as goal

pub shared_family-requires-clause-reads : goal.shared_family-requires-clause-reads
shared_family-requires-clause-reads c =
    subst (λ (s : Seated). CanRead (map_of s) c.args.task.tree.now c.args.references.now c.args.node)
    (sym c.keep_few.ensures.keeps.ops) c.requires.reads

pub shared_family-requires-clause-equipped : goal.shared_family-requires-clause-equipped
shared_family-requires-clause-equipped c = c.keep_few.ensures.equipped c.args.task.tree.now c.requires.can.equipped

pub returns-in-Err-clause-goes_on : goal.returns-in-Err-clause-goes_on
returns-in-Err-clause-goes_on c =
    on_full (record c.shared_family.new.worker { full = true }) c.requires.can c.keep_few.ensures.keeps (record {
      copies = c.shared_family.ensures.equipped.copies;
      rooms = c.shared_family.ensures.equipped.rooms;
    }) c.shared_family.ensures.found c.in-Err.ensures.full

pub returns-clause-goes_on : goal.returns-clause-goes_on
returns-clause-goes_on c =
    on_gave (record c.shared_family.new.worker { work = c.saturating_add-worker.result }) c.requires.can
    c.keep_few.ensures.keeps (record {
      copies = c.shared_family.ensures.equipped.copies;
      rooms = c.shared_family.ensures.equipped.rooms;
    }) c.shared_family.ensures.found c.in-Ok.ensures.gives c.shared_family.ensures.same
