-- What is found in a deck for a command: its first fault, or that its cut list or its failing orders are over their
-- limit, or all that the command's text needs.
use Rattle.std.specs.Prelude.{◌≡◌, ℕ, nat_lt, List, [], Option, if◌then◌else◌}
use Rattle.unit_sets.specs.CutOrder.{weight, weight_limit}
use Rattle.fault_definitions.specs.{Tree.FaultTree, Cut.IsCutList}
use Rattle.cut_sequences.specs.Orders.{order_limit, order_lists, order_total}
use Rattle.crew_script.specs.declared.dockets.Crew.{Crew}
use Rattle.deck_reading.specs.{declared.fault.DeckFault.DeckFault, declared.deck.CrewPart.CrewPart, Faults.IsDeckFault}
use Rattle.deck_reading.specs.{Faults.IsWellFormed}

-- what a command wants of the cut sets: nothing, the cut list, or the cut list and the failing orders of its sets of at
-- most so many members
pub data CutsWanted : Type 0 where
  NoCuts : CutsWanted
  CutsAlone : CutsWanted
  WithOrders : ℕ → CutsWanted

-- what a command wants of a deck
pub record Wants : Type 0 where
  pub crews : CrewPart
  pub cuts : CutsWanted

-- a tree, its cut list, where it was wanted, and the crews, where a crew part was read
pub record Found : Type 0 where
  pub tree : FaultTree
  pub cuts : List (List ℕ)
  pub crews : Option (List Crew)

-- the first fault of a deck, a cut list that is too heavy, too many failing orders, or all that was wanted
pub data Finding : Type 0 where
  Faulty : DeckFault → Finding
  TooHeavy : Finding
  TooManyOrders : Finding
  Ready : Found → Finding

-- the cut list, where it is wanted
abbrev pub AreCutsFor : CutsWanted → FaultTree → List (List ℕ) → Type 0
AreCutsFor NoCuts tree cuts = cuts ≡ []
AreCutsFor CutsAlone tree cuts = IsCutList tree cuts
AreCutsFor (WithOrders most) tree cuts = IsCutList tree cuts

-- a tree with its cut list: the limits are looked at one after the other
abbrev pub judged : CutsWanted → Found → Finding
judged NoCuts found = Ready found
judged CutsAlone found = if nat_lt weight_limit (weight found.cuts) then TooHeavy else Ready found
judged (WithOrders most) found =
    if nat_lt weight_limit (weight found.cuts) then TooHeavy
    else (if nat_lt order_limit (order_total (order_lists found.tree found.cuts most)) then TooManyOrders
    else Ready found)

-- what is found: the first fault, or else whether the limits are kept
pub data Finds (wants : Wants) (bytes : List ℕ) (finding : Finding) : Type 0 where
  bad_deck : (fault : DeckFault) → IsDeckFault wants.crews bytes fault → finding ≡ Faulty fault
      → Finds wants bytes finding
  well_formed : (found : Found) → IsWellFormed wants.crews bytes found.tree found.crews
      → AreCutsFor wants.cuts found.tree found.cuts → finding ≡ judged wants.cuts found → Finds wants bytes finding
