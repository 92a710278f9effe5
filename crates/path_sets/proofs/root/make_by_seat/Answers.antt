use Rattle.std.proofs.Common.{subst}
use Rattle.zdd_shared_table.specs.Seats.{Seated}
use Rattle.zdd_product.specs.Seats.{Joined, WasFull, WentOn}
use Rattle.path_sets.specs.Due.{IsDueToPaths}
use Rattle.path_sets.proofs.RootLemmas.{paths_stay}
use Rattle.path_sets.proofs.SeatLemmas.{IsSplitOff, full_counted, full_went, joined_to, unused_counts, unused_went}
use Rattle.path_sets.proofs.SeatLemmas.{used_went}
use Rattle.path_sets.proofs.root.make_by_seat.Goals as goal
use Rattle.path_sets.proofs.root.make_by_seat.Goals.{After-join, After-join-2, After-split}

-- the seat that was split off
off : (c : After-split) → IsSplitOff c.args.seat.now c.split.result
off c =
    let split = c.split.ensures in
    record { store = split.store; fulls = split.fulls.0; missed = split.fulls.1; fills = split.fills }

-- it was joined again, as memory was refused
unused : (c : After-join) → Joined c.args.seat.now c.split.result c.join.new.seat
unused c =
    let is = c.join.ensures in
    subst (λ (s : Seated). Joined c.args.seat.now s c.join.new.seat) c.in-Err.ensures.seat
    (joined_to c.split.ensures.seat is.store is.keeps is.gains is.sound is.fills is.missed is.fulls)

-- it was joined again with what was made
used : (c : After-join-2) → Joined c.args.seat.now c.make_all-ended.new.ops c.join-2.new.seat
used c =
    let is = c.join-2.ensures in
    subst (λ (s : Seated). Joined c.args.seat.now s c.join-2.new.seat) c.into_seat.ensures
    (joined_to c.split.ensures.seat is.store is.keeps is.gains is.sound is.fills is.missed is.fulls)

pub returns-in-Err-clause-went : goal.returns-in-Err-clause-went
returns-in-Err-clause-went c =
    let to = goal.at.returns-in-Err-clause-went c in
    unused_went (off to.After-split) c.split.ensures.sound.0 (unused to.After-join) (IsDueToPaths c.args.tree.now)

pub returns-in-Err-clause-no_memory : goal.returns-in-Err-clause-no_memory
returns-in-Err-clause-no_memory c is =
    let to = goal.at.returns-in-Err-clause-no_memory c in
    unused_counts (off to.After-split) c.split.ensures.sound.0 (unused to.After-join)

-- a search of this call found the store full
full : (c : After-join-2) → WasFull (IsDueToPaths c.args.tree.now) c.in-Ok.ops c.make_all-ended.new.ops
    → WasFull (IsDueToPaths c.args.tree.now) c.split.result c.make_all-ended.new.ops
full c was =
    subst (λ (s : Seated). WasFull (IsDueToPaths c.args.tree.now) s c.make_all-ended.new.ops) c.in-Ok.ensures.seat was

pub returns-in_err-ended-clause-went : goal.returns-in_err-ended-clause-went
returns-in_err-ended-clause-went c =
    let to = goal.at.returns-in_err-ended-clause-went c in
    full_went (off to.After-split) (IsDueToPaths c.args.tree.now) c.split.ensures.sound.0 (used to.After-join-2)
    (full to.After-join-2 c.in_err-ended.ensures.full)

pub returns-in_err-ended-clause-full : goal.returns-in_err-ended-clause-full
returns-in_err-ended-clause-full c is =
    let to = goal.at.returns-in_err-ended-clause-full c in
    full_counted (off to.After-split) (IsDueToPaths c.args.tree.now) c.split.ensures.sound.0 (used to.After-join-2)
    (full to.After-join-2 c.in_err-ended.ensures.full)

pub returns-clause-went : goal.returns-clause-went
returns-clause-went c =
    let to = goal.at.returns-clause-went c in
    used_went (off to.After-split) (IsDueToPaths c.args.tree.now) c.split.ensures.sound.0 (used to.After-join-2)
    (subst (λ (s : Seated). WentOn (IsDueToPaths c.args.tree.now) s c.make_all-ended.new.ops) c.in-Ok.ensures.seat
    c.in_ok-ended.ensures.on)

pub returns-clause-paths : goal.returns-clause-paths
returns-clause-paths c node is_node read =
    let is = used (goal.at.returns-clause-paths c).After-join-2 in
    paths_stay c.make_all-ended.new.ops c.join-2.new.seat c.in_ok-ended.ensures.on.went.sound is.sound is.gains
    c.make_all-ended.new.references node (c.in_ok-ended.ensures.paths node is_node read)
