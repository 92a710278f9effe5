-- A board that is opened for a deck, and what came of it.
use Rattle.std.specs.Prelude.{◌≡◌, ℕ, List, ◌++◌, Option}
use Rattle.fault_definitions.specs.{Tree.FaultTree, Cut.IsCutList, WellFormed.IsTree}
use Rattle.cut_sequences.specs.Orders.{order_lists}
use Rattle.crew_script.specs.declared.dockets.Crew.{Crew}
use Rattle.board_words.specs.Command.{command_of}
use Rattle.outage_board.specs.{Boards.BoardView, Boards.IsBoard, Histories.IsWhole, Passes.AreOf, Passes.HaveAll}
use Rattle.outage_board.specs.{declared.board.BoardStart.BoardStart}
use Rattle.zdd_shared_table.specs.Seats.{Seated}
use Rattle.board_report.specs.BoardText.{IsDeckOf, board_text}
use Rattle.outage_engine.specs.{declared.status.Status.Status, declared.listing.Listing.Listing}
use Rattle.outage_engine.specs.{declared.opening.Opened.Opened, Finding.Finds, Finding.Ready, Gives.own_deck, Runs.Runs}
use Rattle.outage_engine.specs.{Runs.Tells, Store.method_by, StoreAfter.BearsOut, StoreAfter.IsLeftBy, Texts.board_deck}
use Rattle.outage_engine.specs.{Texts.for_board}
use Rattle.outage_engine.specs.declared.status.Status.TheVariants as status
use Rattle.outage_engine.specs.Answers.{IsListingOf, IsOfUnits, found_in, listing_text}

-- ---- an open board

-- a board that is opened for what was found in the deck, with a pass for each crew
pub record IsOpened (margin most : ℕ) (bytes : List ℕ) (opened : Opened) : Type 0 where
  pub crews : Option (List Crew)
  pub finds : Finds (for_board most) bytes (Ready (found_in opened.listing crews))
  pub orders : opened.listing.orders ≡ order_lists opened.listing.tree opened.listing.cuts most
  pub deck : opened.start.board.deck ≡ board_deck margin (found_in opened.listing crews)
  pub list : IsCutList opened.listing.tree opened.listing.cuts
  pub kept : IsTree opened.listing.tree

-- the passes are the board's, one for each crew
abbrev pub HasPasses : BoardStart → Type 0
HasPasses start = AreOf start.board start.passes.passes × HaveAll start.board.deck start.passes.passes

-- it can be served and written
abbrev pub IsReady : Opened → Type 0
IsReady opened =
    IsOfUnits opened.listing × HasPasses opened.start × IsDeckOf opened.listing.tree opened.start.board.deck

-- what a listing and crews give: the open board, with a pass for each crew
abbrev pub IsOpenedWith : ℕ → Listing → Option (List Crew) → Opened → Type 0
IsOpenedWith margin listing crews opened =
    (opened.listing ≡ listing) × (opened.start.board.deck ≡ board_deck margin (found_in listing crews))
    × HasPasses opened.start

-- what a tree and crews give
abbrev pub IsOpenedFor : ℕ → ℕ → FaultTree → Option (List Crew) → Opened → Type 0
IsOpenedFor margin most tree crews opened =
    IsListingOf most tree opened.listing × (opened.start.board.deck ≡ board_deck margin (found_in opened.listing crews))

-- ---- what came of a board

-- all crews were served: the deck is the one that was opened, the history is whole, and the board keeps what every
-- board keeps
pub record IsServed (start : BoardStart) (state : BoardView) : Type 0 where
  pub deck : state.deck ≡ start.board.deck
  pub whole : IsWhole state.deck.dockets state.history
  pub kept : IsBoard state

-- the run told the listing, and behind it the board as it was once all its crews were served
abbrev pub TellsBoard : {K : Type 0} → Listing → BoardStart → (K → Option (List ℕ)) → (K → ℕ) → K → K → Status → Type 0
TellsBoard listing start taken faults old new result =
    (state : BoardView) × IsServed start state × Tells taken faults old new (status.Done (method_by listing.root))
    (listing_text listing ++ board_text listing.tree state) result

-- ---- what came of a run

-- what a run did: what it told for its words and its input, with a status that the seat bears out, and how it left the
-- seat
pub record HasRun {K : Type 0} (words : List (List ℕ)) (held left : Option (List ℕ)) (rose : Type 0)
    (taken : K → Option (List ℕ)) (faults : K → ℕ) (old new : K) (before after : Seated)
    (result : Status) : Type 0 where
  pub runs : Runs words held left rose taken faults old new result
  pub bears : BearsOut (own_deck (command_of words)) held left before after result
  pub seat : IsLeftBy (own_deck (command_of words)) held left before after
