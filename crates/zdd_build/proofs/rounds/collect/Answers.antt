use Rattle.std.proofs.Common.{refl, ◌∙◌, ◌<◌, get_or, length, length-set, subst, arith}
use Rattle.zdd_shared_table.specs.Seats.{Seated, map_of}
use Rattle.zdd_build.specs.{Building.IsBuiltTo, Workers.IsAtWork, Workers.IsReady}
use Rattle.zdd_build.proofs.SeatLemmas.{Learned-nothing, Learned-then, part_learned}
use Rattle.zdd_build.proofs.{TableLemmas.built_on, rounds.collect.Goals.After-index-team-i}
use Rattle.zdd_build.proofs.WorkerLemmas.{above_set, at_work_on, below_set}
use Rattle.zdd_build.proofs.rounds.collect.Goals as goal

pub loop-i-init : goal.loop-i-init
loop-i-init c = record {
  learned = Learned-nothing c.requires.seat.sound;
  size = refl;
  ready = λ k d below. absurd (omega (arith, below));
  left = λ k d high within. c.requires.at_work k d within;
  built = c.requires.built;
}

-- the next worker
at_work : (c : After-index-team-i) → IsAtWork c.args.run.task (get_or c.loop-i.team c.loop-i.i c.index-team-i.result)
at_work c =
    c.loop-i.invariant.left c.loop-i.i c.index-team-i.result (omega arith)
    (let t = c.loop-i-test.true in let e = c.loop-i.invariant.size in omega (arith, t, e))

pub meet-requires-clause-seat : goal.meet-requires-clause-seat
meet-requires-clause-seat c = part_learned c.requires.seat c.loop-i.invariant.learned

pub meet-requires-clause-worker : goal.meet-requires-clause-worker
meet-requires-clause-worker c = (at_work (goal.at.meet-requires-clause-worker c).After-index-team-i).can

pub take_found-requires-clause-at_work : goal.take_found-requires-clause-at_work
take_found-requires-clause-at_work c =
    at_work_on (at_work (goal.at.take_found-requires-clause-at_work c).After-index-team-i) c.meet.ensures.goes_on

pub take_found-requires-clause-built : goal.take_found-requires-clause-built
take_found-requires-clause-built c =
    built_on (map_of c.loop-i.seat) (map_of c.meet.new.worker.ops) c.loop-i.invariant.learned.sound.closed
    c.meet.ensures.goes_on.can.counts.sound.closed c.meet.ensures.learns c.args.run.task c.loop-i.table
    c.args.run.from c.loop-i.invariant.built

pub loop-i-preserved : goal.loop-i-preserved
loop-i-preserved c =
    let inv = c.loop-i.invariant in
    let team = c.loop-i.team in
    let i = c.loop-i.i in
    let met = c.meet.new.worker in
    let taken = c.take_found.new.worker in
    let inside : i < length team = (let t = c.loop-i-test.true in let e = inv.size in omega (arith, t, e)) in
    record {
      learned = Learned-then inv.learned c.meet.ensures.learned;
      size = length-set team i taken ∙ inv.size;
      ready = below_set (IsReady c.args.run.task) team i taken inside inv.ready c.take_found.ensures.ready;
      left =
          λ k d high within. above_set (IsAtWork c.args.run.task) team i taken inv.left k d high
          (let e = length-set team i taken in omega (arith, e, within));
      built =
          built_on (map_of met.ops) (map_of c.meet.new.seat) c.meet.ensures.goes_on.can.counts.sound.closed
          c.meet.ensures.learned.sound.closed c.meet.ensures.tells c.args.run.task c.take_found.new.table
          c.args.run.from
          (subst (λ (s : Seated). IsBuiltTo (map_of s) c.args.run.task c.take_found.new.table c.args.run.from)
          c.take_found.ensures.ops c.take_found.ensures.built);
    }

pub returns-clause-led : goal.returns-clause-led
returns-clause-led c =
    let inv = c.loop-i.invariant in
    record {
      learned = inv.learned;
      size = inv.size;
      team =
          record {
            can_part = part_learned c.requires.seat inv.learned;
            some = let s = c.requires.some in let e = inv.size in omega (arith, s, e);
            ready =
                λ k d within. inv.ready k d
                (let t = c.loop-i-test.false in let e = inv.size in omega (arith, t, e, within));
          };
    }
