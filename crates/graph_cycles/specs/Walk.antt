-- What is true of the walk between two steps.
use Rattle.std.specs.Prelude.{◌≡◌, ◌≢◌, ℕ, ◌+◌, ◌-◌, ◌<◌, ◌≤◌, ◌↔◌, ◌⊎◌, ◌||◌, nat_lt, Bool, false, List, [], ◌∷◌}
use Rattle.std.specs.Prelude.{length, take, Contains, IsTrue, slice_index, slice_index_or}
use Rattle.graph_cycles.specs.Graph.{successors, has, Goes, Leads, AreAfterSuccessors, rank_over}
use Rattle.graph_cycles.specs.declared.walk.Stage.{Stage}
use Rattle.graph_cycles.specs.declared.walk.Stage.TheVariants.{New, Open, Closed}

-- how far the walk has come at a node
abbrev pub stage_at : List Stage → ℕ → Stage
stage_at stages x = slice_index_or stages x New

-- whether a node is marked as lying on a cycle; a number of no node is not
abbrev pub mark_at : List Bool → ℕ → Bool
mark_at marks x = slice_index_or marks x false

-- y is x, or is reached from it
abbrev pub Reaches : List (List ℕ) → ℕ → ℕ → Type 0
Reaches graph x y = (x ≡ y) ⊎ Leads graph x y

-- the piece of one position begins at or before another position
abbrev pub Within : List ℕ → ℕ → ℕ → Type 0
Within pieces i j = (c : ℕ) → c < length pieces → slice_index pieces c ≤ i → slice_index pieces c ≤ j

-- a position is among these
abbrev pub IsOn : List ℕ → ℕ → Type 0
IsOn path i = (p : ℕ) × (p < length path) × (slice_index path p ≡ i)

-- each number of the list is greater than all before it
abbrev pub Rises : List ℕ → Type 0
Rises places = (p q : ℕ) → p < q → q < length places → slice_index places p < slice_index places q

-- the pieces that begin at or before a position, of those that there were
pub record Keeps (old new : List ℕ) (at : ℕ) : Type 0 where
  pub front : new ≡ take (length new) old
  pub shorter : length new ≤ length old
  pub kept : (c : ℕ) → c < length new → slice_index new c ≤ at
  pub dropped : (c : ℕ) → length new ≤ c → c < length old → at < slice_index old c

-- an edge from the node at a position to y is accounted for: y is closed, or open in the same piece or a later one
abbrev pub IsKnown : List Stage → List ℕ → ℕ → ℕ → Type 0
IsKnown stages pieces i y = (stage_at stages y ≡ Closed) ⊎ ((j : ℕ) × (stage_at stages y ≡ Open j) × Within pieces i j)

-- the edges that a node has had explored
abbrev pub seen_of : List (List ℕ) → List ℕ → ℕ → List ℕ
seen_of graph explored x = take (slice_index explored x) (successors graph x)

-- what is true of the walk between two steps, after the search for strongly connected components by one path
pub record IsSound (graph : List (List ℕ)) (stages : List Stage) (explored unclosed pieces path : List ℕ)
    (marks : List Bool) : Type 0 where
  pub stages_all : length stages ≡ length graph
  pub explored_all : length explored ≡ length graph
  pub marks_all : length marks ≡ length graph
  pub fresh : (x : ℕ) → stage_at stages x ≡ New → slice_index explored x ≡ 0
  pub nodes : (i : ℕ) → i < length unclosed → slice_index unclosed i < length graph
  pub opened : (i : ℕ) → i < length unclosed → stage_at stages (slice_index unclosed i) ≡ Open i
  pub placed : (x i : ℕ) → stage_at stages x ≡ Open i → (i < length unclosed) × (slice_index unclosed i ≡ x)
  pub closed : (x y : ℕ) → stage_at stages x ≡ Closed → Goes graph x y → stage_at stages y ≡ Closed
  pub marked : (x : ℕ) → stage_at stages x ≡ Closed → IsTrue (mark_at marks x) ↔ Leads graph x x
  pub together : (i j : ℕ) → i < length unclosed → j < length unclosed → Within pieces i j
      → Reaches graph (slice_index unclosed i) (slice_index unclosed j)
  pub known : (i y : ℕ) → i < length unclosed → IsTrue (has (seen_of graph explored (slice_index unclosed i)) y)
      → IsKnown stages pieces i y
  pub left_done : (i : ℕ) → i < length unclosed
      → IsOn path i ⊎ (length (successors graph (slice_index unclosed i))
      ≤ slice_index explored (slice_index unclosed i))
  pub roots : (c : ℕ) → c < length pieces → IsOn path (slice_index pieces c)
  pub first : 0 < length unclosed → (0 < length pieces) × (slice_index pieces 0 ≡ 0)
  pub path_open : (p : ℕ) → p < length path → slice_index path p < length unclosed
  pub path_rises : Rises path
  pub pieces_rise : Rises pieces

-- the position at the end of the path
abbrev pub IsTop : List ℕ → ℕ → Type 0
IsTop path t = (0 < length path) × (slice_index path (length path - 1) ≡ t)

-- these places of a list have the value, and nothing else is changed
pub record AreSet {A : Type 0} (places : List ℕ) (value default : A) (old new : List A) : Type 0 where
  pub same : length new ≡ length old
  pub inside : (k : ℕ) → k < length places → slice_index_or new (slice_index places k) default ≡ value
  pub outside : (x : ℕ) → ((k : ℕ) → k < length places → slice_index places k ≢ x)
      → slice_index_or new x default ≡ slice_index_or old x default

-- these nodes are closed and marked alike, and nothing else is changed
pub record Closes (nodes : List ℕ) (mark : Bool) (stages stages' : List Stage) (marks marks' : List Bool) : Type 0 where
  pub closed : AreSet nodes Closed New stages stages'
  pub marked : AreSet nodes mark false marks marks'

-- the closed nodes that lie on no cycle have their ranks, none of which exceeds the number of closed nodes
pub record HasRanks (graph : List (List ℕ)) (stages : List Stage) (ranks : List ℕ) (marks : List Bool)
    (count : ℕ) : Type 0 where
  pub ranks_all : length ranks ≡ length graph
  pub ranked : (x : ℕ) → stage_at stages x ≡ Closed → mark_at marks x ≡ false
      → slice_index ranks x ≡ rank_over ranks (successors graph x)
  pub bounded : (x : ℕ) → slice_index ranks x ≤ count

-- the list has the closed nodes, each that lies on no cycle after all its successors
pub record AreOrdered (graph : List (List ℕ)) (stages : List Stage) (order : List ℕ) : Type 0 where
  pub closed : (k : ℕ) → k < length order → stage_at stages (slice_index order k) ≡ Closed
  pub all : (x : ℕ) → stage_at stages x ≡ Closed → Contains order x
  pub after_successors : AreAfterSuccessors graph order

-- what is left to do at a stage
abbrev pub stage_work : Stage → ℕ
stage_work New = 2
stage_work (Open position) = 0
stage_work Closed = 0

-- the edges that are left to explore, and two steps for each node that is new
abbrev pub work_left : List (List ℕ) → List ℕ → List Stage → ℕ
work_left [] explored stages = 0
work_left (row ∷ rows) [] stages = 0
work_left (row ∷ rows) (e ∷ explored) [] = 0
work_left (row ∷ rows) (e ∷ explored) (stage ∷ stages) =
    (length row - e) + stage_work stage + work_left rows explored stages

-- whether the nodes of the piece that begins at a position and is explored lie on a cycle: there are two of them, or
-- one that has an edge to itself
abbrev pub piece_cycles : List (List ℕ) → List ℕ → ℕ → Bool
piece_cycles graph unclosed t =
    nat_lt 1 (length unclosed - t) || has (successors graph (slice_index unclosed t)) (slice_index unclosed t)
