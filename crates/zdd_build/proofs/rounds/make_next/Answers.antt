use Rattle.std.proofs.Common.{arith}
use Rattle.std.specs.Result.{is_ok}
use Rattle.zdd_shared_table.specs.Seats.{map_of}
use Rattle.zdd_build.specs.Workers.{IsAtRun}
use Rattle.zdd_build.proofs.{TableLemmas.found_pushed, WorkerLemmas.at_run_on}
use Rattle.zdd_build.proofs.rounds.make_next.Goals as goal

pub returns-in-Some : goal.returns-in-Some
returns-in-Some g c =
    let on : IsAtRun c.args.run c.args.references.now c.make_own_at.new.worker =
    at_run_on c.requires c.make_own_at.ensures.goes_on in
    record {
      at_work =
          record {
            can =
                record {
                  own = on.at_work.can.own;
                  share = on.at_work.can.share;
                  counts = on.at_work.can.counts;
                  equipped =
                      record { copies = on.at_work.can.equipped.copies; rooms = on.at_work.can.equipped.rooms };
                  full = on.at_work.can.full;
                };
            found =
                found_pushed (map_of c.make_own_at.new.worker.ops) c.args.run.task c.make_own_at.new.worker.found.items
                (record { place = c.fetch_add-place.result; family = c.in-Some.family }) (is_ok c.push.result)
                on.at_work.found (
                  (let low = c.if-place-run-2.false in let all = c.requires.can_make.is_run.within in
                      omega (arith, low, all)),
                  c.in-Some.ensures.gives,
                )
                c.push.ensures.items;
          };
      can_make = on.can_make;
    }

pub returns-in-None : goal.returns-in-None
returns-in-None g c =
    at_run_on c.requires c.make_own_at.ensures.goes_on
