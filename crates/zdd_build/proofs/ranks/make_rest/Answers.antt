use Rattle.std.proofs.Common.{◌∙◌, ◌<◌, length, false, List, ℕ, subst, sym, arith}
use Rattle.std.proofs.lemmas.List.{get_or_read}
use Rattle.zdd_shared_table.specs.Seats.{map_of}
use Rattle.zdd_build.specs.Building.{CanMake, IsBuiltTo}
use Rattle.zdd_build.proofs.TableLemmas.{built_less, built_next, built_on, can_make, put_built, put_made, table_room}
use Rattle.zdd_build.proofs.WorkerLemmas.{goes_on_same, goes_on_then}
use Rattle.zdd_build.proofs.ranks.make_rest.Goals as goal

pub loop-place-init : goal.loop-place-init
loop-place-init g c = record {
  built = c.requires.built;
  goes_on = goes_on_same c.requires.can;
}

pub loop-place-preserved-then-index : goal.loop-place-preserved-then-index
loop-place-preserved-then-index g c = record {
  built =
      built_next c.loop-place.invariant.built
      (sym (get_or_read c.loop-place.table.made.items c.loop-place.place c.index.result.now
      (let e = c.loop-place.invariant.built.built.all_places in let t = c.loop-place-test.true in
      let all = c.requires.run.within in omega (arith, e, t, all)) c.index.ensures false) ∙ c.if-index.true);
  goes_on = c.loop-place.invariant.goes_on;
}

pub make_at-requires-clause-can_make : goal.make_at-requires-clause-can_make
make_at-requires-clause-can_make g c κs within =
    subst (λ (references : List ℕ). CanMake (map_of c.loop-place.worker.ops) c.args.run references)
    (sym c.as_slice.ensures.value) (can_make c.requires.run
    (built_less c.loop-place.auto.place c.loop-place.invariant.built))

pub put-requires-clause-room : goal.put-requires-clause-room
put-requires-clause-room g c = table_room c.requires.run.task c.loop-place.invariant.built

pub loop-place-preserved : goal.loop-place-preserved
loop-place-preserved g c =
    let task = c.args.run.task in
    let worker = c.make_at.new.worker in
    let inv = c.loop-place.invariant in
    let place = c.loop-place.place in
    let within : place < length task.places.now =
    (let t = c.loop-place-test.true in let all = c.requires.run.within in omega (arith, t, all)) in
    let before : IsBuiltTo (map_of worker.ops) task c.loop-place.table place =
    built_on (map_of c.loop-place.worker.ops) (map_of worker.ops) inv.goes_on.can.counts.sound.closed
    c.make_at.ensures.goes_on.can.counts.sound.closed c.make_at.ensures.goes_on.keeps task c.loop-place.table place
    inv.built in
    record {
      built =
          built_next (put_built c.requires.run.task c.put.new.self place
          c.in_ok-family.family before within c.in_ok-family.ensures.gives c.put.ensures.references c.put.ensures.made)
          (put_made c.requires.run.task c.put.new.self place
          c.in_ok-family.family before within c.in_ok-family.ensures.gives c.put.ensures.references c.put.ensures.made);
      goes_on = goes_on_then inv.goes_on c.make_at.ensures.goes_on;
    }

pub returns-in_err-family-clause-goes_on : goal.returns-in_err-family-clause-goes_on
returns-in_err-family-clause-goes_on g c =
    goes_on_then c.loop-place.invariant.goes_on c.make_at.ensures.goes_on

pub returns-then-place-run-clause-stop : goal.returns-then-place-run-clause-stop
returns-then-place-run-clause-stop g c = record {
  low = c.loop-place.auto.place;
  high = let t = c.loop-place-test.true in omega (arith, t);
  all = λ none. absurd (let e = c.is_heavy.ensures none in let t = c.if-is_heavy.true in cc);
}
