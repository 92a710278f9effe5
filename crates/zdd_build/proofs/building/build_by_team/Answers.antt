use Rattle.std.proofs.Common.{◌≡◌, ◌∙◌, List, length, subst, sym, ap, arith}
use Rattle.tree_families.specs.Due.{IsDueToTree}
use Rattle.zdd_shared_table.specs.Seats.{map_of}
use Rattle.zdd_product.specs.Seats.{WentAll}
use Rattle.zdd_product.proofs.Several.{WentAll-nowhere, WentAll-then}
use Rattle.zdd_build.specs.declared.worker.Worker.{Worker}
use Rattle.zdd_build.specs.Workers.{FindsFull, HasLed, IsTeam}
use Rattle.zdd_build.proofs.SeatLemmas.{WentAll-learned, counts_then, split_went}
use Rattle.zdd_build.proofs.TableLemmas.{built_on}
use Rattle.zdd_build.proofs.TeamLemmas.{led_back, written, written_is}
use Rattle.zdd_build.proofs.building.build_by_team.Goals as goal
use Rattle.zdd_build.proofs.building.build_by_team.Goals.{After-close-2, After-make_ranks-ended}
use Rattle.zdd_build.proofs.building.build_by_team.Given as given

pub returns-in_err-team-clause-went : goal.returns-in_err-team-clause-went
returns-in_err-team-clause-went g c = WentAll-nowhere (IsDueToTree c.args.task.tree.now) c.is_sound.ensures.sound

pub returns-in-Err-clause-went : goal.returns-in-Err-clause-went
returns-in-Err-clause-went g c =
    let due = IsDueToTree c.args.task.tree.now in
    WentAll-then due (split_went c.open.ensures.split) c.close.ensures.went

pub returns-in-Err-clause-share : goal.returns-in-Err-clause-share
returns-in-Err-clause-share g c =
    let closed = c.close.ensures.share in
    let split = c.open.ensures.split.share in
    omega (arith, closed, split)

pub returns-in-Err-clause-no_memory : goal.returns-in-Err-clause-no_memory
returns-in-Err-clause-no_memory g c is =
    counts_then c.open.ensures.split.counts (c.close.ensures.new c.open.ensures.new)

pub make_ranks-ended-requires-clause-team : goal.make_ranks-ended-requires-clause-team
make_ranks-ended-requires-clause-team g c κs within =
    subst (IsTeam c.args.task c.open.new.seat) (sym c.as_mut_slice.ensures.value)
    (record {
      can_part =
          record {
            own = c.open.ensures.split.store ∙ c.requires.own;
            share =
                let all = c.in_default.ensures.all in let e = c.open.ensures.split.share in let s = c.requires.share in
                omega (arith, all, e, s);
            sound = c.open.ensures.split.sound;
          };
      some = let all = c.in_default.ensures.all in let s = c.requires.some in omega (arith, all, s);
      ready = c.open.ensures.ready;
    })

pub make_ranks-ended-requires-clause-built : goal.make_ranks-ended-requires-clause-built
make_ranks-ended-requires-clause-built g c κs within = c.requires.built (map_of c.open.new.seat)

-- the team has made the ranks, and is written back as a whole
led : (g : given.Over) (c : After-make_ranks-ended g)
    → HasLed c.args.task c.open.new.seat c.open.new.team.items c.make_ranks-ended.new.seat
    (written c.make_ranks-ended.new.team c.open.new.team.items c.open.new.team.len)
led g c =
    led_back c.open.new.team.len (let e = c.open.new.team.ok.0 in omega (arith, e))
    (subst (λ (l : List Worker). HasLed c.args.task c.open.new.seat l c.make_ranks-ended.new.seat
    c.make_ranks-ended.new.team) c.as_mut_slice.ensures.value c.make_ranks-ended.ensures.led)

pub close-requires-2-clause-ready : goal.close-requires-2-clause-ready
close-requires-2-clause-ready g c =
    (led g (goal.at.close-requires-2-clause-ready g c).After-make_ranks-ended).team.ready

-- the workers were split off, made the ranks, and were taken in again
went : (g : given.Over) (c : After-close-2 g) → WentAll (IsDueToTree c.args.task.tree.now) c.args.seat.now
    c.close-2.new.seat
went g c =
    let due = IsDueToTree c.args.task.tree.now in
    WentAll-then due (split_went c.open.ensures.split) (WentAll-then due
    (WentAll-learned c.make_ranks-ended.ensures.led.learned) c.close-2.ensures.went)

-- the workers' shares are all back
share_back : (g : given.Over) (c : After-close-2 g)
    → length (written c.make_ranks-ended.new.team c.open.new.team.items c.open.new.team.len)
    ≡ length c.open.new.team.items → c.close-2.new.seat.share ≡ c.args.seat.now.share
share_back g c same =
    let closed = c.close-2.ensures.share in
    let kept = c.make_ranks-ended.ensures.led.learned.share in
    let split = c.open.ensures.split.share in
    omega (arith, closed, kept, split, same)

pub returns-in_err-ended-clause-went : goal.returns-in_err-ended-clause-went
returns-in_err-ended-clause-went g c = went g (goal.at.returns-in_err-ended-clause-went g c).After-close-2

pub returns-clause-went : goal.returns-clause-went
returns-clause-went g c = went g (goal.at.returns-clause-went g c).After-close-2

pub returns-in_err-ended-clause-share : goal.returns-in_err-ended-clause-share
returns-in_err-ended-clause-share g c =
    let to = goal.at.returns-in_err-ended-clause-share g c in
    share_back g to.After-close-2 (led g to.After-make_ranks-ended).size

pub returns-clause-share : goal.returns-clause-share
returns-clause-share g c =
    let to = goal.at.returns-clause-share g c in
    share_back g to.After-close-2 (led g to.After-make_ranks-ended).size

pub returns-in_err-ended-clause-full : goal.returns-in_err-ended-clause-full
returns-in_err-ended-clause-full g c is =
    let whole = written_is c.make_ranks-ended.new.team c.open.new.team.items c.open.new.team.len
    (c.make_ranks-ended.ensures.led.size ∙ ap (λ (l : List Worker). length l) c.as_mut_slice.ensures.value)
    (let e = c.open.new.team.ok.0 in omega (arith, e)) in
    let more = c.close-2.ensures.full (subst FindsFull (sym whole) c.in_err-ended.ensures.full) in
    let kept = c.make_ranks-ended.ensures.led.learned.counts.fulls in
    let split = c.open.ensures.split.counts.fulls in
    omega (arith, more, kept, split)

pub returns-clause-built : goal.returns-clause-built
returns-clause-built g c =
    built_on (map_of c.make_ranks-ended.new.seat) (map_of c.close-2.new.seat)
    c.make_ranks-ended.ensures.led.learned.sound.closed c.close-2.ensures.went.sound.closed
    c.close-2.ensures.went.keeps c.args.task c.make_ranks-ended.new.table (length c.args.task.places.now)
    c.in_ok-ended.ensures.built
