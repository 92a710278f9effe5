-- The line that has to come next in a log.
use Rattle.std.specs.Prelude.{◌≡◌, ℕ, ◌+◌, ◌<◌, List, [], ◌∷◌, ◌++◌, length, Option, Some, None}
use Rattle.std.specs.Borrow.{Bor}
use Rattle.crew_script.specs.Dockets.{crew_at}
use Rattle.outage_board.specs.declared.entry.Entry.{Entry}
use Rattle.outage_board.specs.{Boards.Deck, Boards.BoardView, Boards.next_entry, Histories.docket_of}
use Rattle.board_report.specs.LogText.{entry_line}

-- each crew has as many requests as it asks
abbrev pub HasAsks : Deck → Type 0
HasAsks deck = (crew : ℕ) → length (docket_of deck.dockets crew) ≡ length (crew_at deck.crews crew).docket

-- a text begins with the line of an entry behind a board's history
abbrev pub ShowsNext : BoardView → List ℕ → Entry → List ℕ → Type 0
ShowsNext board text entry rest =
    text ≡ entry_line board.deck.crews (length board.history + 1) entry ++ rest

-- the entry that is made for some crew next is the one that a text begins with, and the board has it afterwards
pub record ReadsEntry (old new : BoardView) (text rest : List ℕ) : Type 0 where
  pub entry : Entry
  pub due : next_entry old entry.crew ≡ Some entry
  pub shown : ShowsNext old text entry rest
  pub board : new ≡ record old { history = old.history ++ entry ∷ [] }

-- no text begins with an entry that is made for some crew next
abbrev pub ShowsNone : BoardView → List ℕ → Type 0
ShowsNone board text = (entry : Entry) (rest : List ℕ) → entry.crew.0 < length board.deck.crews
    → next_entry board entry.crew ≡ Some entry → ¬ ShowsNext board text entry rest

-- the next line was read, or it is none that can come next
abbrev pub Reads : BoardView → BoardView → List ℕ → Option (Bor (List ℕ)) → Type 0
Reads old new text None = ShowsNone old text
Reads old new text (Some rest) = ReadsEntry old new text rest.now
