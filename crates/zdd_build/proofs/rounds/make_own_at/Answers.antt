use Rattle.std.proofs.Common.{IfSome, subst, sym}
use Rattle.fault_definitions.specs.CutFamily.{IsCutFamily}
use Rattle.zdd_shared_table.specs.Seats.{map_of}
use Rattle.zdd_product.specs.Seats.{KnowsOne}
use Rattle.zdd_build.specs.{declared.places.Place.Place, Building.CanRead}
use Rattle.zdd_build.proofs.PlaceLemmas.{place_read}
use Rattle.zdd_build.proofs.rounds.make_own_at.Goals as goal

pub make_own-made-requires-clause-reads : goal.make_own-made-requires-clause-reads
make_own-made-requires-clause-reads g c =
    subst (λ (p : Place). CanRead (map_of c.args.worker.now.ops) c.args.run.task.tree.now c.args.references.now p.node)
    (place_read c.requires.can_make.is_run c.args.place c.requires.within c.index-run-place-2.result)
    (c.requires.can_make.reads c.args.place c.requires.from c.requires.within)

pub returns-clause-gives : goal.returns-clause-gives
returns-clause-gives g c =
    subst (λ (p : Place). IfSome c.make_own-made.result
    (λ r. KnowsOne (map_of c.make_own-made.new.worker.ops) r (IsCutFamily c.args.run.task.tree.now p.node)))
    (sym (place_read c.requires.can_make.is_run c.args.place c.requires.within c.index-run-place-2.result))
    c.make_own-made.ensures.gives
