-- How passes are dealt when a board is opened, and gathered when it is closed.
use Rattle.std.specs.Prelude.{◌≡◌, ℕ, false, List, [], ◌∷◌, ◌++◌}
use Rattle.std.specs.declared.snapshot.Snapshot.{Snapshot}
use Rattle.atomic_table.specs.{Table.Me, Seated.TableId}
use Rattle.outage_board.specs.{declared.view.View.View, declared.view.Made.Made, Boards.BoardView, Boards.Deck}
use Rattle.outage_board.specs.{Views.first_view, Views.nothing_made, Passes.OpenBoard, Passes.Pass}

-- the board of a table
abbrev pub board_of : TableId → Snapshot BoardView → OpenBoard
board_of table about = record { table = table; deck = about.value.deck }

-- the pass that has this many crews from this one on, none of which has made anything
abbrev pub undealt : Snapshot BoardView → ℕ → ℕ → View
undealt about number count = record (first_view about.value) { crews = nothing_made number count }

-- the pass has no turn, holds no state, and is of the deck's board
pub record IsGathered (deck : Deck) (me : Me BoardView View) : Type 0 where
  pub opened : me.0.opened.deck ≡ deck
  pub turn : me.0.turn ≡ false
  pub holds_none : me.1 ≡ []

-- what was made with passes, from the last one back
abbrev pub made_back : List Pass → List Made
made_back [] = []
made_back (pass ∷ passes) = made_back passes ++ record { crew = pass.crew.0; entries = pass.made } ∷ []
