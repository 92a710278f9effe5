-- The texts of commands that are answered for a deck.
use Rattle.std.specs.Prelude.{◌≡◌, ℕ, List, [], ◌++◌, Option, Some, None}
use Rattle.cut_sequences.specs.Orders.{order_lists}
use Rattle.crew_script.specs.declared.dockets.Crew.{Crew}
use Rattle.outage_board.specs.{Boards.Deck, Boards.deck_of, Histories.IsLegal, Histories.IsWhole}
use Rattle.outage_board.specs.{declared.entry.Entry.Entry}
use Rattle.board_report.specs.BoardText.{board_text}
use Rattle.board_report.specs.{CheckText.check_text, PrintText.print_text, SummaryText.summary_text}
use Rattle.cut_texts.specs.{CutsText.cuts_text, CutsText.listed_with, DiagramText.diagram_text}
use Rattle.tree_maker.specs.MadeDeck.{made_deck}
use Rattle.outage_engine.specs.{declared.status.Method.Method, Store.AreNodesOf, Store.method_by}
use Rattle.deck_reading.specs.declared.deck.CrewPart.TheVariants.{Unread, IfAny, Needed}
use Rattle.outage_engine.specs.Finding.{Finds, Found, Ready, Wants, NoCuts, CutsAlone, WithOrders}

-- ---- what each command wants of a deck

-- `cuts` wants the cut list and the failing orders of the sets of at most so many members, and no crews
abbrev pub for_cuts : ℕ → Wants
for_cuts most = record { crews = Unread; cuts = WithOrders most }

-- `board` wants the cut list, the failing orders of the sets of at most so many members, and a crew part
abbrev pub for_board : ℕ → Wants
for_board most = record { crews = Needed; cuts = WithOrders most }

-- `check` wants no cut sets, and the crews where there is a crew part
abbrev pub for_check : Wants
for_check = record { crews = IfAny; cuts = NoCuts }

-- `print` wants the tree alone
abbrev pub for_print : Wants
for_print = record { crews = Unread; cuts = NoCuts }

-- `diagram` wants the cut list alone, without orders and crews
abbrev pub for_diagram : Wants
for_diagram = record { crews = Unread; cuts = CutsAlone }

-- of `make` for the summary of a made deck: the orders of the sets of at most so many members, and a board
abbrev pub summed_most : ℕ
summed_most = 6

-- the summary of a made deck wants what `board` does, with the orders of the sets of at most 6 members
abbrev pub for_summary : Wants
for_summary = for_board summed_most

-- ---- what is said of what was found

-- the cut list of a tree, with the failing orders of the sets of at most so many members
abbrev pub cuts_said : ℕ → Found → List ℕ
cuts_said most found = cuts_text found.tree (listed_with found.cuts (order_lists found.tree found.cuts most))

-- the crews, none where no crew part was read
abbrev pub all_crews : Option (List Crew) → List Crew
all_crews None = []
all_crews (Some crews) = crews

-- the deck of a board: the tree's units, its cut list, the crews with their requests and the opening margin
abbrev pub board_deck : ℕ → Found → Deck
board_deck margin found = deck_of found.tree found.cuts (all_crews found.crews) margin

-- a history of the deck: each reply is the decision at what the entries before it leave, and each crew's requests are
-- there, each once and in order
pub record IsHistoryOf (deck : Deck) (history : List Entry) : Type 0 where
  pub legal : IsLegal deck.opening history
  pub whole : IsWhole deck.dockets history

-- what is said of the cut list, and the board's text behind it: the log of a history and what it leaves
abbrev pub board_said : ℕ → ℕ → Found → List Entry → List ℕ
board_said margin most found history =
    cuts_said most found ++ board_text found.tree (record { deck = board_deck margin found; history = history })

-- the opening margin of the board of a made deck
abbrev pub summed_margin : ℕ
summed_margin = 1

-- what is said of a made deck in sum: of its tree, of its cut list and failing orders, and of a history of its board
abbrev pub summary_said : ℕ → Found → List Entry → List ℕ
summary_said number found history =
    summary_text number found.tree (order_lists found.tree found.cuts summed_most)
    (record { deck = board_deck summed_margin found; history = history })

-- ---- the texts

-- the text of `cuts` for a deck of these bytes: of the minimal cut sets of its tree, each once and in order, each with
-- its failing orders
pub record IsCutsText (most : ℕ) (bytes text : List ℕ) : Type 0 where
  pub found : Found
  pub finds : Finds (for_cuts most) bytes (Ready found)
  pub is : text ≡ cuts_said most found

-- the text of `board` for a deck of these bytes: the same, and one history of its crews' requests
pub record IsBoardText (margin most : ℕ) (bytes text : List ℕ) : Type 0 where
  pub found : Found
  pub finds : Finds (for_board most) bytes (Ready found)
  pub history : List Entry
  pub of_deck : IsHistoryOf (board_deck margin found) history
  pub is : text ≡ board_said margin most found history

-- the text of `check` for a deck of these bytes: how large its tree is and, where it has a crew part, how many crews
-- and requests it has
pub record IsCheckText (bytes text : List ℕ) : Type 0 where
  pub found : Found
  pub finds : Finds for_check bytes (Ready found)
  pub is : text ≡ check_text found.tree found.crews

-- the text of `print` for a deck of these bytes: its tree in the grammar of decks
pub record IsPrintText (bytes text : List ℕ) : Type 0 where
  pub found : Found
  pub finds : Finds for_print bytes (Ready found)
  pub is : text ≡ print_text found.tree

-- the text of `diagram` for a deck of these bytes: how large the cut list of its tree is and, exactly where the sets
-- were found by the diagram, how many nodes the family of the minimal cuts has
pub record IsDiagramText (method : Method) (bytes text : List ℕ) : Type 0 where
  pub found : Found
  pub finds : Finds for_diagram bytes (Ready found)
  pub nodes : Option ℕ
  pub of_method : method ≡ method_by nodes
  pub counted : AreNodesOf found.tree nodes
  pub is : text ≡ diagram_text found.tree found.cuts nodes

-- the text of `make` that sums up the made deck of a number: how large its tree is, how many minimal cut sets and
-- failing orders it has, and what came of one history of its crew's requests
pub record IsSummaryText (number : ℕ) (text : List ℕ) : Type 0 where
  pub found : Found
  pub finds : Finds for_summary (made_deck number) (Ready found)
  pub history : List Entry
  pub of_deck : IsHistoryOf (board_deck summed_margin found) history
  pub is : text ≡ summary_said number found history
