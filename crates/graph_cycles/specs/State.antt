-- The walk as it stands between two steps.
use Rattle.std.specs.Prelude.{◌≡◌, ◌≢◌, ℕ, ◌+◌, ◌-◌, ◌<◌, true, false, List, [], ◌∷◌, ◌++◌, length, take, drop}
use Rattle.std.specs.Prelude.{slice_index, slice_set}
use Rattle.graph_cycles.specs.{declared.walk.Walk.Walk, Graph.successors, Graph.rank_over}
use Rattle.graph_cycles.specs.declared.walk.Stage.TheVariants.{New, Open, Closed}
use Rattle.graph_cycles.specs.Walk.{IsSound, HasRanks, AreOrdered, Keeps, Closes, piece_cycles, stage_at, work_left}

-- the walk keeps what it is for: it is sound, its closed nodes have their ranks, and they stand in order
pub record Stands (graph : List (List ℕ)) (w : Walk) : Type 0 where
  pub sound : IsSound graph w.stages.items w.explored.items w.unclosed.items w.pieces.items w.path.items
      w.on_cycle.items
  pub ranks : HasRanks graph w.stages.items w.ranks.items w.on_cycle.items (length w.closed.items)
  pub order : AreOrdered graph w.stages.items w.closed.items

-- a node that was met stays met
abbrev pub StaysMet : Walk → Walk → Type 0
StaysMet old new = (x : ℕ) → stage_at new.stages.items x ≡ New → stage_at old.stages.items x ≡ New

-- the steps that are left
abbrev pub steps_left : List (List ℕ) → Walk → ℕ
steps_left graph w = work_left graph w.explored.items w.stages.items + length w.path.items

-- a node is met: it is open, a piece of its own, and the end of the path, and nothing else is changed
pub record Meets (old new : Walk) (x : ℕ) : Type 0 where
  pub rest : new ≡ record old { stages = new.stages; unclosed = new.unclosed; pieces = new.pieces; path = new.path }
  pub stages : new.stages.items ≡ slice_set old.stages.items x (Open (length old.unclosed.items))
  pub unclosed : new.unclosed.items ≡ old.unclosed.items ++ x ∷ []
  pub pieces : new.pieces.items ≡ old.pieces.items ++ length old.unclosed.items ∷ []
  pub path : new.path.items ≡ old.path.items ++ length old.unclosed.items ∷ []

-- the pieces from that of a position on are one, and nothing else is changed
pub record Joins (old new : Walk) (at : ℕ) : Type 0 where
  pub rest : new ≡ record old { pieces = new.pieces }
  pub pieces : Keeps old.pieces.items new.pieces.items at

-- an edge to a node is followed: a new node is met, an open one joins pieces, and a closed one changes nothing
pub record Follows (old new : Walk) (x : ℕ) : Type 0 where
  pub to_new : stage_at old.stages.items x ≡ New → Meets old new x
  pub to_open : (i : ℕ) → stage_at old.stages.items x ≡ Open i → Joins old new i
  pub to_closed : stage_at old.stages.items x ≡ Closed → new ≡ old

-- one step is done: the walk stands, every node that was met stays met, and less is left to do
pub record Steps (graph : List (List ℕ)) (old new : Walk) : Type 0 where
  pub stands : Stands graph new
  pub met : StaysMet old new
  pub fewer : steps_left graph new < steps_left graph old

-- the number of edges explored of the node at a position
abbrev pub explored_at : Walk → ℕ → ℕ
explored_at w at = slice_index w.explored.items (slice_index w.unclosed.items at)

-- the edges of the node at a position
abbrev pub edges_at : List (List ℕ) → Walk → ℕ → List ℕ
edges_at graph w at = successors graph (slice_index w.unclosed.items at)

-- one more edge of the node at a position counts as explored, and nothing else is changed
pub record Counts (old new : Walk) (at : ℕ) : Type 0 where
  pub rest : new ≡ record old { explored = new.explored }
  pub explored : new.explored.items ≡ slice_set old.explored.items (slice_index old.unclosed.items at)
      (explored_at old at + 1)

-- nothing but ranks is changed
pub record IsRankedAlone (old new : Walk) : Type 0 where
  pub stages : new.stages ≡ old.stages
  pub explored : new.explored ≡ old.explored
  pub unclosed : new.unclosed ≡ old.unclosed
  pub pieces : new.pieces ≡ old.pieces
  pub path : new.path ≡ old.path
  pub closed : new.closed ≡ old.closed
  pub on_cycle : new.on_cycle ≡ old.on_cycle
  pub ranks : length new.ranks.items ≡ length old.ranks.items

-- the piece that begins at a position is closed: its nodes are marked, and a node that lies on no cycle has its rank
pub record Shuts (graph : List (List ℕ)) (old new : Walk) (at : ℕ) : Type 0 where
  pub sealed : Closes (drop at old.unclosed.items) (piece_cycles graph old.unclosed.items at) old.stages.items
      new.stages.items old.on_cycle.items new.on_cycle.items
  pub explored : new.explored.items ≡ old.explored.items
  pub unclosed : new.unclosed.items ≡ take at old.unclosed.items
  pub pieces : new.pieces.items ≡ take (length old.pieces.items - 1) old.pieces.items
  pub path : new.path.items ≡ take (length old.path.items - 1) old.path.items
  pub closed : new.closed.items ≡ old.closed.items ++ drop at old.unclosed.items
  pub ranked : piece_cycles graph old.unclosed.items at ≡ false
      → new.ranks.items ≡ slice_set old.ranks.items (slice_index old.unclosed.items at)
      (rank_over old.ranks.items (edges_at graph old at))
  pub unranked : piece_cycles graph old.unclosed.items at ≡ true → new.ranks.items ≡ old.ranks.items

-- a walk from a node is done: the walk stands and rests, every node that was met stays met, and the root is met
pub record Walks (graph : List (List ℕ)) (old new : Walk) (root : ℕ) : Type 0 where
  pub stands : Stands graph new
  pub rests : length new.path.items ≡ 0
  pub met : StaysMet old new
  pub root_met : stage_at new.stages.items root ≢ New
