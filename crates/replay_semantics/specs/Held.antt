-- What a replay keeps: the steps under its order, and how to go back to each of the order's beginnings.
use Rattle.std.specs.Prelude.{◌≡◌, ℕ, suc, ◌≤◌, Bool, ◌==◌, ◌&&◌, if◌then◌else◌, List, length, take, drop, All, nat_le}
use Rattle.std.specs.Prelude.{slice_index_or}
use Rattle.fault_definitions.specs.{FailingOrder.is_admissible, WellFormed.IsTree, Step.Step, Step.step}
use Rattle.fault_model.specs.Order.{AreDistinct}
use Rattle.fault_definitions.specs.Tree.{FaultTree, IsNodeOf, IsUnitOf}
use Rattle.replay_semantics.specs.{Readers.AreReaders, Spread.AreFailed, Spread.step_without}

-- where the nodes begin that failed at the unit of a place, and after the last one where all end
abbrev pub start_of : List ℕ → List ℕ → ℕ → ℕ
start_of starts log place = slice_index_or starts place (length log)

-- without the nodes that failed from a place on, the table has the steps under the order up to there
abbrev pub GoesBack : FaultTree → List ℕ → List Step → List ℕ → (ℕ → ℕ) → Type 0
GoesBack tree order steps log start =
    (place : ℕ) → place ≤ length order → (node : ℕ) → IsNodeOf tree node
    → step_without (drop (start place) log) steps node ≡ step tree (take place order) node

-- the starts never fall from one place to a later one, as far as the last place
abbrev pub StartsRise : ℕ → (ℕ → ℕ) → Type 0
StartsRise last start = (place later : ℕ) → place ≤ later → later ≤ last → start place ≤ start later

-- a beginning of the order is admissible exactly where it is no longer than this
abbrev pub IsAdmittedUpTo : FaultTree → List ℕ → ℕ → Type 0
IsAdmittedUpTo tree order admitted =
    (place : ℕ) → place ≤ length order → is_admissible tree (take place order) ≡ nat_le place admitted

-- how long the longest admissible beginning is after one unit more, by whether that one fits
abbrev pub admitted_after : ℕ → ℕ → Bool → ℕ
admitted_after up_to units fits = if up_to == units && fits then suc units else up_to

-- What a replay keeps of a well-formed tree and an order of different units of it: who reads each node, the steps under
-- the order, which nodes failed at each place of it, and how long its longest admissible beginning is.
pub record HoldsReplay (tree : FaultTree) (rows : List (List ℕ)) (steps : List Step) (log order starts : List ℕ)
    (up_to : ℕ) : Type 0 where
  pub kept : IsTree tree
  pub readers : AreReaders tree rows
  pub failed : AreFailed tree steps log
  pub units : All (IsUnitOf tree) order
  pub distinct : AreDistinct order
  pub starts_all : length starts ≡ length order
  pub starts_rise : StartsRise (length order) (start_of starts log)
  pub back : GoesBack tree order steps log (start_of starts log)
  pub admitted : IsAdmittedUpTo tree order up_to
  pub within : up_to ≤ length order
