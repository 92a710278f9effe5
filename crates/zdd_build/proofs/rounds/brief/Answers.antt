use Rattle.std.proofs.Common.{◌<◌, refl, get_or, length, arith}
use Rattle.zdd_families.specs.Map.{Grown}
use Rattle.zdd_shared_table.specs.Seats.{map_of}
use Rattle.zdd_product.proofs.After.{grown_then}
use Rattle.zdd_build.specs.{declared.worker.Worker.Worker, Workers.IsReady}
use Rattle.zdd_build.proofs.SeatLemmas.{Learned-nothing}
use Rattle.zdd_build.proofs.WorkerLemmas.{below_set, led_then, ready_on, team_set}
use Rattle.zdd_build.proofs.rounds.brief.Goals as goal

pub loop-i-init : goal.loop-i-init
loop-i-init c = record {
  led =
      record {
        learned = Learned-nothing c.requires.team.can_part.sound;
        size = refl;
        team = c.requires.team;
      };
  learns = λ k d below. absurd (omega (arith, below));
}

pub meet-requires-clause-worker : goal.meet-requires-clause-worker
meet-requires-clause-worker c =
    (c.loop-i.invariant.led.team.ready c.loop-i.i c.index-team-i.result
    (let t = c.loop-i-test.true in let e = c.loop-i.invariant.led.size in omega (arith, t, e))).can

pub loop-i-preserved : goal.loop-i-preserved
loop-i-preserved c =
    let led = c.loop-i.invariant.led in
    let team = c.loop-i.team in
    let i = c.loop-i.i in
    let met = c.meet.new.worker in
    let inside : i < length team = (let t = c.loop-i-test.true in let e = led.size in omega (arith, t, e)) in
    let old : Worker = get_or team i c.index-team-i.result in
    let ready : IsReady c.args.task old = led.team.ready i c.index-team-i.result inside in
    record {
      led =
          led_then led (team_set i met led.team c.meet.ensures.learned (ready_on ready c.meet.ensures.goes_on));
      learns =
          below_set (λ (w : Worker). Grown (map_of c.args.seat.now) (map_of w.ops)) team i met inside
          c.loop-i.invariant.learns
          (grown_then (map_of c.args.seat.now) (map_of c.loop-i.seat) (map_of met.ops) led.learned.keeps
          c.meet.ensures.learns);
    }
