use Rattle.std.proofs.{Common.refl, Common.subst, lemmas.Result.err_from_is_err_and}
use Rattle.zdd_shared_table.specs.Seats.{map_of}
use Rattle.zdd_build.specs.{Building.IsBuiltTo, Workers.HasLed}
use Rattle.zdd_build.proofs.{TableLemmas.built_less, WorkerLemmas.led_then, ranks.make_rank.Goals.After-make_first-2}
use Rattle.zdd_build.proofs.ranks.make_rank.Goals as goal
use Rattle.zdd_build.proofs.ranks.make_rank.Given as given

pub spread-requires-clause-built : goal.spread-requires-clause-built
spread-requires-clause-built g c κs within = built_less c.in_ok-place.ensures.stop.low c.in_ok-place.ensures.built

-- the first worker, all, and the first again
led : (g : given.Over) (c : After-make_first-2 g) → HasLed c.args.run.task c.args.seat.now c.args.team.now
    c.make_first-2.new.seat c.make_first-2.new.team
led g c =
    let task = c.args.run.task in
    led_then (led_then c.make_first.ensures.led c.spread.ensures.led) c.make_first-2.ensures.led

pub returns-clause-led : goal.returns-clause-led
returns-clause-led g c = led g (goal.at.returns-clause-led g c).After-make_first-2

pub returns-in_err-make_first-clause-led : goal.returns-in_err-make_first-clause-led
returns-in_err-make_first-clause-led g c =
    led g (goal.at.returns-in_err-make_first-clause-led g c).After-make_first-2

pub returns-clause-built : goal.returns-clause-built
returns-clause-built g c =
    subst (IsBuiltTo (map_of c.make_first-2.new.seat) c.args.run.task c.make_first-2.new.table)
    (c.in_ok-make_first.ensures.stop.all refl) c.in_ok-make_first.ensures.built

pub returns-in_err-make_first-clause-full : goal.returns-in_err-make_first-clause-full
returns-in_err-make_first-clause-full g c =
    let p = err_from_is_err_and c.from_residual-in_err-make_first.result
    c.from_residual-in_err-make_first.ensures.1 in
    rw p.1 c.in_err-make_first.ensures.full

pub returns-in_err-place-clause-full : goal.returns-in_err-place-clause-full
returns-in_err-place-clause-full g c =
    let p = err_from_is_err_and c.from_residual.result c.from_residual.ensures.1 in
    rw p.1 c.in_err-place.ensures.full
