use Rattle.std.proofs.Common.{◌∙◌, List, ℕ, get_or, subst, sym}
use Rattle.zdd_shared_table.specs.Seats.{map_of}
use Rattle.zdd_build.specs.{declared.worker.Worker.Worker, Building.CanMake}
use Rattle.zdd_build.proofs.TableLemmas.{built_on, can_make, can_make_on}
use Rattle.zdd_build.proofs.{WorkerLemmas.ready_at_work, SeatLemmas.Learned-then}
use Rattle.zdd_build.proofs.rounds.spread.Goals as goal

pub make_all-requires-clause-at_run : goal.make_all-requires-clause-at_run
make_all-requires-clause-at_run g c κs within k d inside =
    let worker : Worker = get_or c.brief.new.team k d in
    let ready = c.brief.ensures.led.team.ready k d inside in
    record {
      at_work = ready_at_work ready;
      can_make =
          subst (λ (references : List ℕ). CanMake (map_of worker.ops) c.args.run references)
          (sym c.as_slice.ensures.value)
          (can_make_on (map_of c.args.seat.now) (map_of worker.ops) c.requires.team.can_part.sound.closed
          ready.can.counts.sound.closed (c.brief.ensures.learns k d inside) c.args.run
          c.args.table.now.references.items (can_make c.requires.run c.requires.built));
    }

pub collect-requires-clause-built : goal.collect-requires-clause-built
collect-requires-clause-built g c =
    built_on (map_of c.args.seat.now) (map_of c.brief.new.seat) c.requires.team.can_part.sound.closed
    c.brief.ensures.led.learned.sound.closed c.brief.ensures.led.learned.keeps c.args.run.task c.args.table.now
    c.args.run.from c.requires.built

pub returns-clause-led : goal.returns-clause-led
returns-clause-led g c = record {
  learned =
      Learned-then c.brief.ensures.led.learned c.collect.ensures.led.learned;
  size = c.collect.ensures.led.size ∙ c.make_all.ensures.size ∙ c.brief.ensures.led.size;
  team = c.collect.ensures.led.team;
}
