-- A made deck in sum, before it is written.
use Rattle.std.specs.Prelude.{◌≡◌, ℕ, ◌-◌, List, length, Some}
use Rattle.fault_definitions.specs.Tree.{FaultTree}
use Rattle.crew_script.specs.declared.dockets.Crew.{Crew}
use Rattle.outage_board.specs.Boards.{BoardView}
use Rattle.outage_board.specs.Histories.{IsLegal, IsWhole, docket_of, served}
use Rattle.outage_engine.specs.{declared.listing.Listing.Listing, declared.summary.Summary.Summary}
use Rattle.outage_engine.specs.Answers.{HasOrders, IsListingOf, found_in}
use Rattle.outage_engine.specs.Texts.{board_deck, summed_margin, summed_most}

-- how many requests of the first crew are left
abbrev pub left_of_first : BoardView → ℕ
left_of_first board = length (docket_of board.deck.dockets 0) - served 0 board.history

-- a cut list of a tree, and a board of it on which all requests of these crews were decided
pub record IsServedFor (number : ℕ) (listing : Listing) (crews : List Crew) (summary : Summary) : Type 0 where
  pub of_number : summary.number ≡ number
  pub of_listing : summary.listing ≡ listing
  pub deck : summary.board.deck ≡ board_deck summed_margin (found_in listing (Some crews))
  pub legal : IsLegal summary.board.deck.opening summary.board.history
  pub whole : IsWhole summary.board.deck.dockets summary.board.history

-- the same of a tree: its cut list, and its failing orders
pub record IsSummaryOf (number : ℕ) (tree : FaultTree) (crews : List Crew) (summary : Summary) : Type 0 where
  pub listed : IsListingOf summed_most tree summary.listing
  pub orders : HasOrders summary
  pub served : IsServedFor number summary.listing crews summary
