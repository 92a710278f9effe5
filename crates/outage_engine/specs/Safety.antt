-- What a planner may rely on after each granted request of a board.
use Rattle.std.specs.Prelude.{◌≡◌, ℕ, ◌≤◌, false, List, ◌++◌, ◌∷◌, [], length}
use Rattle.unit_sets.specs.UnitList.{outside}
use Rattle.fault_definitions.specs.{Tree.FaultTree, Cut.is_cut, FailingOrder.is_failing}
use Rattle.margin_policy.specs.{Held.units_out, Standing.StandingView}
use Rattle.outage_board.specs.{Boards.Deck, Histories.standing_after, Safety.IsJudgedGrant, declared.entry.Entry.Entry}
use Rattle.outage_engine.specs.Finding.{Finds, Found, Ready}
use Rattle.outage_engine.specs.Texts.{IsHistoryOf, board_deck, board_said, for_board}

-- With these units out and this margin in force: no set that has at most so many other members is a cut of the tree,
-- and no order of such units fails the top event. A set need not have the units that are out: they do not count.
pub record Bears (tree : FaultTree) (standing : StandingView) : Type 0 where
  pub sets : (set : List ℕ) → length (outside (units_out standing.held) set) ≤ standing.margin → is_cut tree set ≡ false
  pub orders : (order : List ℕ) → length (outside (units_out standing.held) order) ≤ standing.margin
      → is_failing tree order ≡ false

-- after each granted take and each granted margin of a history, with the units that are then out and the margin then in
-- force
abbrev pub BearsThroughout : FaultTree → Deck → List Entry → Type 0
BearsThroughout tree deck history =
    (before : List Entry) (entry : Entry) (rest : List Entry) → history ≡ before ++ entry ∷ rest → IsJudgedGrant entry
    → Bears tree (standing_after deck.opening (before ++ entry ∷ []))

-- the text of `board` for a deck of these bytes, of a history after each grant of which the tree bears what the margin
-- says
pub record IsSafeText (margin most : ℕ) (bytes text : List ℕ) : Type 0 where
  pub found : Found
  pub finds : Finds (for_board most) bytes (Ready found)
  pub history : List Entry
  pub of_deck : IsHistoryOf (board_deck margin found) history
  pub is : text ≡ board_said margin most found history
  pub safe : BearsThroughout found.tree (board_deck margin found) history
