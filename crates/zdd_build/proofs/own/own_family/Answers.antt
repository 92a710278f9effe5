use Rattle.std.proofs.{Common.arith, lemmas.Grind.common_steps}
use Rattle.fault_definitions.specs.CutFamily.{IsCutFamily}
use Rattle.zdd_shared_table.specs.Seats.{map_of}
use Rattle.family_copies.proofs.CopiesLemmas.{copies-went}
use Rattle.zdd_build.proofs.OwnLemmas.{went_of}
use Rattle.zdd_build.proofs.own.own_family.Goals as goal

pub returns-clause-equipped : goal.returns-clause-equipped
returns-clause-equipped c =
    let before = c.read_below.new.worker.memory in
    let after = c.cut_family.new.memory in
    record {
      copies =
          copies-went (map_of c.read_below.new.worker.ops) c.read_below.ensures.went.sound
          (went_of (IsCutFamily c.args.tree.now c.args.node) c.cut_family.result
          c.cut_family.ensures.gives c.cut_family.ensures.spent)
          c.read_below.new.worker.copies c.read_below.ensures.equipped.copies;
      rooms = record {
        list = c.read_below.ensures.equipped.rooms.list;
        votes = λ n is.
            let room = c.read_below.ensures.equipped.rooms.votes n is in grind (arith, common_steps);
      };
    }
