use Rattle.std.proofs.Common.{ℕ, Ok, Err, true, refl, subst, sym}
use Rattle.zdd_shared_table.specs.Seats.{Seated, map_of}
use Rattle.zdd_build.specs.Building.{CanRead}
use Rattle.zdd_build.proofs.WorkerLemmas.{copied_full, copied_gives, keeps_then, on_full, on_gave}
use Rattle.zdd_build.proofs.worker.make_own.Goals as goal

pub own_or_anew-requires-clause-reads : goal.own_or_anew-requires-clause-reads
own_or_anew-requires-clause-reads c =
    subst (λ (s : Seated). CanRead (map_of s) c.args.task.tree.now c.args.references.now c.args.node)
    (sym c.keep_few.ensures.keeps.ops) c.requires.reads

pub own_or_anew-requires-clause-equipped : goal.own_or_anew-requires-clause-equipped
own_or_anew-requires-clause-equipped c = c.keep_few.ensures.equipped c.args.task.tree.now c.requires.can.equipped

pub returns-in-Ok-export-clause-goes_on : goal.returns-in-Ok-export-clause-goes_on
returns-in-Ok-export-clause-goes_on c =
    let tree = c.args.task.tree.now in
    let node = c.args.node in
    on_gave (record c.own_or_anew.new.worker { ops = c.export.new.ops; copies = c.export.new.copies }) c.requires.can
    (keeps_then c.keep_few.ensures.keeps c.own_or_anew.ensures.keeps)
    (record { copies = c.export.ensures.copies; rooms = c.own_or_anew.ensures.equipped.rooms }) refl
    (copied_gives c.units.ensures.kept c.requires.reads.is_node c.in-Ok.ensures.family c.own_or_anew.new.worker.ops
    c.export.new.ops {E = ℕ} (Ok c.in-Ok-export.family) c.in-Ok-export.ensures.gives) refl

pub returns-in-Err-clause-goes_on : goal.returns-in-Err-clause-goes_on
returns-in-Err-clause-goes_on c =
    on_full (record c.own_or_anew.new.worker { ops = c.export.new.ops; copies = c.export.new.copies; full = true })
    c.requires.can (keeps_then c.keep_few.ensures.keeps c.own_or_anew.ensures.keeps)
    (record { copies = c.export.ensures.copies; rooms = c.own_or_anew.ensures.equipped.rooms }) refl
    (copied_full c.units.ensures.kept c.requires.reads.is_node c.in-Ok.ensures.family c.own_or_anew.new.worker.ops
    c.export.new.ops {E = ℕ} (Err 0) c.in-Err.ensures.full)
