-- What contracts see of a board that threads share, and of the passes with which they serve crews.
use Rattle.std.specs.Prelude.{◌≡◌, ℕ, zero, suc, ◌<◌, false, List, [], ◌∷◌, length, map, All, Contains}
use Rattle.atomic_table.specs.{Table.Me, Seated.TableId}
use Rattle.unit_sets.specs.declared.request.CrewNo.{CrewNo}
use Rattle.outage_board.specs.{declared.entry.Entry.Entry, declared.view.View.View, declared.view.Made.Made}
use Rattle.outage_board.specs.{Histories.entries_of, Boards.BoardView, Boards.Deck}

-- which board it is, and the deck that it was opened for
pub record OpenBoard : Type 0 where
  pub table : TableId
  pub deck : Deck

-- the board of a pass, its crew, and the entries that were made with it
pub record Pass : Type 0 where
  pub board : OpenBoard
  pub crew : CrewNo
  pub made : List Entry

-- passes, and how many there may be
pub record PassList : Type 0 where
  pub passes : List Pass
  pub room : ℕ

-- the entries of the first crew
abbrev pub entries_made : List Made → List Entry
entries_made [] = []
entries_made (made ∷ crews) = made.entries

-- the pass of a crew: on the board of this table with the opened deck, and with what was made for its first crew
abbrev pub pass_of : TableId → View → CrewNo → Pass
pass_of table v crew = record {
  board = record { table = table; deck = v.opened.deck };
  crew = crew;
  made = entries_made v.crews;
}

-- what the fields of a pass keep: it has its crew alone, has not the turn and holds no state
pub record IsPass (me : Me BoardView View) (crew : CrewNo) : Type 0 where
  pub own : me.0.crews ≡ record { crew = crew.0; entries = entries_made me.0.crews } ∷ []
  pub turn : me.0.turn ≡ false
  pub holds_none : me.1 ≡ []

-- a new pass of the crew with this number
abbrev pub new_pass : OpenBoard → ℕ → Pass
new_pass board crew = record { board = board; crew = record { 0 = crew }; made = [] }

-- new passes of all crews from a number on, in order
abbrev pub new_passes : OpenBoard → ℕ → ℕ → List Pass
new_passes board number zero = []
new_passes board number (suc count) = new_pass board number ∷ new_passes board (suc number) count

-- all passes are the board's
abbrev pub AreOf : OpenBoard → List Pass → Type 0
AreOf board passes = All (λ (pass : Pass). pass.board ≡ board) passes

-- the numbers of the crews of passes
abbrev pub crews_of : List Pass → List ℕ
crews_of passes = map (λ (pass : Pass). pass.crew.0) passes

-- every crew of the deck has a pass
abbrev pub HaveAll : Deck → List Pass → Type 0
HaveAll deck passes = (crew : ℕ) → crew < length deck.crews → Contains (crews_of passes) crew

-- for each pass, the entries of its crew in a history are exactly those that were made with it
abbrev pub MadeAll : List Entry → List Pass → Type 0
MadeAll history passes = All (λ (pass : Pass). entries_of pass.crew.0 history ≡ pass.made) passes
