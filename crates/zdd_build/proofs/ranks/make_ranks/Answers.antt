use Rattle.std.proofs.Common.{refl, arith}
use Rattle.zdd_build.proofs.{SeatLemmas.Learned-nothing, WorkerLemmas.led_then}
use Rattle.zdd_build.proofs.ranks.make_ranks.Goals as goal

pub loop-from-init : goal.loop-from-init
loop-from-init g c = record {
  within = omega arith;
  led =
      record {
        learned = Learned-nothing c.requires.team.can_part.sound;
        size = refl;
        team = c.requires.team;
      };
  built = c.requires.built;
}

pub loop-from-preserved : goal.loop-from-preserved
loop-from-preserved g c = record {
  within = c.end_of_rank-to.ensures.within;
  led = led_then c.loop-from.invariant.led c.make_rank.ensures.led;
  built = c.in_ok-make_rank.ensures.built;
}

pub returns-in_err-make_rank-clause-led : goal.returns-in_err-make_rank-clause-led
returns-in_err-make_rank-clause-led g c =
    led_then c.loop-from.invariant.led c.make_rank.ensures.led
