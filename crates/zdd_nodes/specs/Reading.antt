-- The references of what a node reads.
use Rattle.std.specs.Prelude.{ℕ, ◌-◌, ◌≤◌, List, All, map, slice_index}
use Rattle.fault_words.specs.{declared.kind.GateKind.GateKind, declared.kind.GateKind.TheVariants.Votes}
use Rattle.fault_definitions.specs.{CutFamily.IsCutFamily, Tree.FaultTree, Trigger.below}
use Rattle.zdd_product.specs.{Seats.KnowsOne, Voting.families}

-- of a list with a reference for each node, that of one node
abbrev pub reference_of : List ℕ → ℕ → ℕ
reference_of references node = slice_index references (node - 1)

-- the map knows the reference of each node that this one reads as that node's cut family
abbrev pub KnowsBelow : (ℕ → ℕ) → FaultTree → List ℕ → ℕ → Type 0
KnowsBelow known tree references node =
    All (λ input. KnowsOne known (reference_of references input) (IsCutFamily tree input)) (below tree node)

-- the families of what a node reads, in its order
abbrev pub families_below : (ℕ → ℕ) → FaultTree → List ℕ → ℕ → List (List (List ℕ))
families_below known tree references node = families known (map (reference_of references) (below tree node))

-- a gate that votes has some votes, and there is room for each number of them
abbrev pub CanVote : GateKind → ℕ → Type 0
CanVote (Votes least of) places = (1 ≤ least) × (least ≤ places)
CanVote _ places = Unit {0}
