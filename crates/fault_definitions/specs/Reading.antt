-- The static reading, after Tang and Dugan's logic alone: whether a node fails once a set of units has failed, in
-- whatever order.
use Rattle.std.specs.Prelude.{◌≡◌, ℕ, ◌+◌, Bool, true, false, ◌||◌, List, [], ◌∷◌, if◌then◌else◌, nat_le}
use Rattle.std.specs.List.{list_any, list_all}
use Rattle.fault_words.specs.declared.kind.GateKind.{GateKind}
use Rattle.fault_words.specs.declared.kind.GateKind.TheVariants.{And, Or, Votes, Pand, Por, Seq, Fdep, Csp, Wsp, Hsp}
use Rattle.fault_definitions.specs.Tree.{FaultTree, kind_of, inputs_of, is_above_units}
use Rattle.fault_definitions.specs.{Trigger.triggers_of, Rank.by_rank}

-- how many of the positions read true
abbrev pub true_count : (ℕ → Bool) → List ℕ → ℕ
true_count reading [] = 0
true_count reading (input ∷ inputs) = (if reading input then 1 else 0) + true_count reading inputs

-- the reading of the first input, whatever the others read
abbrev pub first_reads : (ℕ → Bool) → List ℕ → Bool
first_reads reading [] = false
first_reads reading (input ∷ inputs) = reading input

-- a gate, by the readings of its inputs. An `fdep` has no reading, and counts as false.
abbrev pub gate_reads : GateKind → (ℕ → Bool) → List ℕ → Bool
gate_reads And reading inputs = list_all reading inputs
gate_reads Or reading inputs = list_any reading inputs
gate_reads (Votes least of) reading inputs = nat_le least (true_count reading inputs)
gate_reads Pand reading inputs = list_all reading inputs
gate_reads Por reading inputs = first_reads reading inputs
gate_reads Seq reading inputs = list_all reading inputs
gate_reads Fdep reading inputs = false
gate_reads Csp reading inputs = list_all reading inputs
gate_reads Wsp reading inputs = list_all reading inputs
gate_reads Hsp reading inputs = list_all reading inputs

-- a node, by the readings of what it reads: a unit is in the set, or some trigger of it reads true
abbrev pub node_reads : FaultTree → (ℕ → Bool) → (ℕ → Bool) → ℕ → Bool
node_reads tree set reading node =
    if is_above_units tree node then gate_reads (kind_of tree node) reading (inputs_of tree node)
    else (set node || list_any reading (triggers_of tree node))

-- the static reading of a node
unfoldable pub reads : FaultTree → (ℕ → Bool) → ℕ → Bool
reads tree set node = by_rank tree false (node_reads tree set) node

-- what the first reads true the second does
pub record Within (small large : ℕ → Bool) : Type 0 where
  pub kept : (n : ℕ) → small n ≡ true → large n ≡ true
