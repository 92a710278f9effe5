-- A worker, and the seat that all workers come from.
use Rattle.std.specs.Prelude.{◌≡◌, ℕ, ◌+◌, ◌*◌, ◌<◌, ◌≤◌, true, List, [], ◌∷◌, All, length}
use Rattle.fault_definitions.specs.{CutFamily.IsCutFamily, Tree.FaultTree}
use Rattle.tree_families.specs.Due.{IsDueToTree}
use Rattle.zdd_families.specs.Map.{Grown}
use Rattle.zdd_shared_table.specs.Seats.{Seated, IsSoundSeat, map_of}
use Rattle.zdd_product.specs.Seats.{CountsDue, KnowsOne}
use Rattle.zdd_nodes.specs.Room.{HaveRoomFor}
use Rattle.family_copies.specs.Copies.{AreCopies}
use Rattle.zdd_build.specs.{declared.task.Run.Run, declared.task.Task.Task, declared.worker.Finding.Finding}
use Rattle.zdd_build.specs.{declared.worker.Worker.Worker, Building.CanMake, Places.node_at}

-- the seat has counted as many searches and slots as before
pub record CountsAsBefore (before after : Seated) : Type 0 where
  pub fulls : after.fulls ≡ before.fulls
  pub missed : after.missed ≡ before.missed
  pub fills : after.fills ≡ before.fills

-- a seat has learned, and else is as it was
pub record Learned (before after : Seated) : Type 0 where
  pub store : after.store ≡ before.store
  pub share : after.share ≡ before.share
  pub keeps : Grown (map_of before) (map_of after)
  pub sound : IsSoundSeat after
  pub counts : CountsAsBefore before after

-- so many workers were split off the seat, with a share of two each
pub record HasSplit (count : ℕ) (before after : Seated) : Type 0 where
  pub store : after.store ≡ before.store
  pub keeps : Grown (map_of before) (map_of after)
  pub sound : IsSoundSeat after
  pub counts : CountsAsBefore before after
  pub share : after.share + 2 * count ≡ before.share

-- nothing was counted by the worker yet
pub record IsNew (worker : Worker) : Type 0 where
  pub fulls : worker.ops.fulls ≡ 0
  pub missed : worker.ops.missed ≡ []
  pub fills : worker.ops.fills ≡ []

-- the first of the workers found the store full
abbrev pub FindsFull : List Worker → Type 0
FindsFull [] = ⊥
FindsFull (worker ∷ workers) = worker.full ≡ true

-- the notes of a worker's memory are copies of what its seat knows, and its rooms are large enough for the tree
pub record IsEquipped (tree : FaultTree) (worker : Worker) : Type 0 where
  pub copies : AreCopies worker.memory (map_of worker.ops) worker.copies
  pub rooms : HaveRoomFor tree worker.rooms

-- only a worker's memory has changed, with the notes and the rooms that go with it
pub record KeepsSeat (before after : Worker) : Type 0 where
  pub ops : after.ops ≡ before.ops
  pub found : after.found ≡ before.found
  pub full : after.full ≡ before.full

-- a worker of the store, for the tree: all that its seat has filled and missed is due to the tree, and where it found
-- the store full its seat has counted that
pub record CanWork (task : Task) (worker : Worker) : Type 0 where
  pub own : worker.ops.store ≡ task.store.now
  pub share : worker.ops.share ≡ 2
  pub counts : CountsDue (IsDueToTree task.tree.now) worker.ops
  pub equipped : IsEquipped task.tree.now worker
  pub full : worker.full ≡ true → 1 ≤ worker.ops.fulls

-- a worker knows what it knew, can go on, and has found nothing more
pub record GoesOn (task : Task) (before after : Worker) : Type 0 where
  pub keeps : Grown (map_of before.ops) (map_of after.ops)
  pub can : CanWork task after
  pub found : after.found ≡ before.found

-- the reference that was found for a place is known as the cut family of the node there
abbrev pub IsFound : (ℕ → ℕ) → Task → Finding → Type 0
IsFound known task finding = (finding.place < length task.places.now)
    × KnowsOne known finding.family (IsCutFamily task.tree.now (node_at task.places.now finding.place))

-- a worker that makes nodes: each finding of it is the known cut family of the node at its place
pub record IsAtWork (task : Task) (worker : Worker) : Type 0 where
  pub can : CanWork task worker
  pub found : All (IsFound (map_of worker.ops) task) worker.found.items

-- a worker at the nodes of a run, which knows whatever they read
pub record IsAtRun (run : Run) (references : List ℕ) (worker : Worker) : Type 0 where
  pub at_work : IsAtWork run.task worker
  pub can_make : CanMake (map_of worker.ops) run references

-- a worker that has nothing found that is not taken yet
pub record IsReady (task : Task) (worker : Worker) : Type 0 where
  pub can : CanWork task worker
  pub none : worker.found.items ≡ []

-- a seat of the store whose share can be parted
pub record CanPart (task : Task) (seat : Seated) : Type 0 where
  pub own : seat.store ≡ task.store.now
  pub share : 2 ≤ seat.share
  pub sound : IsSoundSeat seat

-- the seat and the worker have told each other all that they know
pub record HaveMet (task : Task) (seat : Seated) (worker : Worker) (seat' : Seated) (worker' : Worker) : Type 0 where
  pub learned : Learned seat seat'
  pub goes_on : GoesOn task worker worker'
  pub learns : Grown (map_of seat) (map_of worker'.ops)
  pub tells : Grown (map_of worker'.ops) (map_of seat')

-- a seat and its workers, at least one, who are all ready
pub record IsTeam (task : Task) (seat : Seated) (workers : List Worker) : Type 0 where
  pub can_part : CanPart task seat
  pub some : 1 ≤ length workers
  pub ready : All (IsReady task) workers

-- a seat has learned from its workers, and they are a team as large as before
pub record HasLed (task : Task) (seat : Seated) (workers : List Worker) (seat' : Seated) (workers' : List Worker)
    : Type 0 where
  pub learned : Learned seat seat'
  pub size : length workers' ≡ length workers
  pub team : IsTeam task seat' workers'
