use Rattle.std.proofs.Common.{refl, subst, sym, arith}
use Rattle.zdd_shared_table.specs.Seats.{map_of}
use Rattle.zdd_build.specs.{declared.worker.Finding.Finding, Workers.IsFound}
use Rattle.zdd_build.proofs.{TableLemmas.put_built, TableLemmas.table_room, rounds.take_found.Goals.After-index}
use Rattle.zdd_build.proofs.rounds.take_found.Goals as goal

-- what was found there
found : (c : After-index) → IsFound (map_of c.args.worker.now.ops) c.args.run.task c.index.result.now
found c =
    subst (IsFound (map_of c.args.worker.now.ops) c.args.run.task) (sym c.index.ensures)
    (c.requires.at_work.found c.loop-i.i c.index.result.now
    (let t = c.loop-i-test.true in let e = c.len-i-end.ensures in omega (arith, t, e)))

pub put-requires-clause-place : goal.put-requires-clause-place
put-requires-clause-place c = (found (goal.at.put-requires-clause-place c).After-index).0

pub put-requires-clause-room : goal.put-requires-clause-room
put-requires-clause-room c =
    table_room c.requires.run.task c.loop-i.invariant.built

pub loop-i-preserved : goal.loop-i-preserved
loop-i-preserved c =
    let finding : Finding = c.index.result.now in
    let is = found (goal.at.loop-i-preserved c).After-index in
    record {
      built =
          put_built c.requires.run.task c.put.new.self
          finding.place finding.family c.loop-i.invariant.built is.0 is.1 c.put.ensures.references c.put.ensures.made;
      worker = refl;
    }
