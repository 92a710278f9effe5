use Rattle.std.proofs.{Common.get_or, Common.arith, lemmas.Result.err_from_is_err_and}
use Rattle.zdd_shared_table.specs.Seats.{map_of}
use Rattle.zdd_product.proofs.After.{grown_then}
use Rattle.zdd_build.specs.{declared.worker.Worker.Worker, Workers.IsReady}
use Rattle.zdd_build.proofs.SeatLemmas.{Learned-then, part_learned}
use Rattle.zdd_build.proofs.TableLemmas.{built_on}
use Rattle.zdd_build.proofs.WorkerLemmas.{finds_first, goes_on_then, ready_on, team_set}
use Rattle.zdd_build.proofs.ranks.make_first.Goals as goal
use Rattle.zdd_build.proofs.ranks.make_first.Goals.{After-index-team-0, After-make_rest}
use Rattle.zdd_build.proofs.ranks.make_first.Given as given

-- the first worker of the team
ready : (g : given.Over) (c : After-index-team-0 g)
    → IsReady c.args.run.task (get_or c.args.team.now 0 c.index-team-0.result)
ready g c = c.requires.team.ready 0 c.index-team-0.result (let some = c.requires.team.some in omega (arith, some))

-- it has met the seat, and made what it could
made : (g : given.Over) (c : After-make_rest g)
    → IsReady c.args.run.task (get_or c.args.team.now 0 c.index-team-0.result)
    → IsReady c.args.run.task c.make_rest.new.worker
made g c first_ready =
    let first : Worker = get_or c.args.team.now 0 c.index-team-0.result in
    ready_on first_ready (goes_on_then c.meet.ensures.goes_on c.make_rest.ensures.goes_on)

pub meet-requires-clause-worker : goal.meet-requires-clause-worker
meet-requires-clause-worker g c = (ready g (goal.at.meet-requires-clause-worker g c).After-index-team-0).can

pub make_rest-requires-clause-built : goal.make_rest-requires-clause-built
make_rest-requires-clause-built g c κs within =
    built_on (map_of c.args.seat.now) (map_of c.meet.new.worker.ops) c.requires.team.can_part.sound.closed
    c.meet.ensures.goes_on.can.counts.sound.closed c.meet.ensures.learns c.args.run.task c.args.table.now
    c.args.run.from c.requires.built

pub returns-in_err-place-clause-led : goal.returns-in_err-place-clause-led
returns-in_err-place-clause-led g c =
    let to = goal.at.returns-in_err-place-clause-led g c in
    team_set 0 c.make_rest.new.worker c.requires.team
    c.meet.ensures.learned (made g to.After-make_rest (ready g to.After-index-team-0))

pub returns-in_err-place-clause-full : goal.returns-in_err-place-clause-full
returns-in_err-place-clause-full g c =
    let p = err_from_is_err_and c.from_residual.result c.from_residual.ensures.1 in
    rw p.1 (finds_first c.args.team.now c.make_rest.new.worker c.requires.team.some c.in_err-place.ensures.full)

pub meet-requires-2-clause-seat : goal.meet-requires-2-clause-seat
meet-requires-2-clause-seat g c = part_learned c.requires.team.can_part c.meet.ensures.learned

pub returns-clause-led : goal.returns-clause-led
returns-clause-led g c =
    let to = goal.at.returns-clause-led g c in
    team_set 0 c.meet-2.new.worker c.requires.team (Learned-then c.meet.ensures.learned c.meet-2.ensures.learned)
    (ready_on (made g to.After-make_rest (ready g to.After-index-team-0)) c.meet-2.ensures.goes_on)

pub returns-clause-built : goal.returns-clause-built
returns-clause-built g c =
    built_on (map_of c.make_rest.new.worker.ops) (map_of c.meet-2.new.seat)
    c.make_rest.ensures.goes_on.can.counts.sound.closed c.meet-2.ensures.learned.sound.closed
    (grown_then (map_of c.make_rest.new.worker.ops) (map_of c.meet-2.new.worker.ops) (map_of c.meet-2.new.seat)
    c.meet-2.ensures.goes_on.keeps c.meet-2.ensures.tells) c.args.run.task
    c.make_rest.new.table c.in_ok-place.place c.in_ok-place.ensures.built
