use Rattle.std.proofs.Common.{List, ℕ, arith, refl, subst, sym}
use Rattle.zdd_families.specs.Map.{Grown}
use Rattle.zdd_shared_table.specs.{Known.find, Seats.Seated, Seats.map_of}
use Rattle.zdd_build.specs.Workers.{Learned}
use Rattle.zdd_build.proofs.SeatLemmas.{can_learned}
use Rattle.zdd_build.proofs.TeamLemmas.{joined_is, join_split, split_join}
use Rattle.zdd_build.proofs.teams.meet.Goals as goal

pub returns : goal.returns
returns c =
    let seat = c.args.seat.now in
    let after = c.join-2.new.seat in
    let mid = c.join.new.self in
    let met = c.split-told-2.new.self in
    let told = c.split-told.ensures in
    let told' = c.split-told-2.ensures in
    let is = c.join.ensures in
    let is' = c.join-2.ensures in
    let ops : Learned c.args.worker.now.ops met =
    join_split seat {b = c.args.worker.now.ops} {part = c.split-told.result} {c = mid} met 1 told.fulls told.fills
    (joined_is is.store is.keeps is.gains is.sound is.fills is.missed is.fulls) told'.seat told'.sound.1 is.share
    told.share in
    record {
      learned =
          split_join seat {b = c.split-told.new.seat} {part = c.split-told-2.result} {c = after} met 1 told'.fulls
          told'.fills
          (joined_is is'.store is'.keeps is'.gains is'.sound is'.fills is'.missed is'.fulls) told.seat
          (let two = c.requires.seat.share in omega (arith, two)) is'.share told'.share;
      goes_on =
          record {
            keeps = ops.keeps;
            can = can_learned {task = c.args.task} {worker = c.args.worker.now} {after = met} c.requires.worker ops;
            found = refl;
          };
      learns =
          subst (λ (s : Seated). Grown (map_of seat) (map_of s)) (sym told'.seat)
          (subst (λ (k : List (ℕ × ℕ)). Grown (find k) (map_of mid)) told.known is.gains);
      tells =
          subst (λ (s : Seated). Grown (map_of s) (map_of after)) (sym told'.seat)
          (subst (λ (k : List (ℕ × ℕ)). Grown (find k) (map_of after)) told'.known is'.gains);
    }
