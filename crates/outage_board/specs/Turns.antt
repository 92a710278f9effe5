-- What the steps of a board's turn tell the pass that makes them.
use Rattle.std.specs.Prelude.{◌≡◌, ◌⊎◌, ℕ, ◌<◌, true, false, List, [], ◌∷◌, ◌++◌, length, All, Option, Some, None}
use Rattle.atomic_table.specs.{Table.Me, declared.shared.Seat.Seat}
use Rattle.outage_board.specs.{declared.entry.Entry.Entry, declared.view.View.View, declared.view.Made.Made}
use Rattle.outage_board.specs.{Boards.BoardView, Boards.Deck, Histories.entries_of, Rule.times_of}
use Rattle.outage_board.specs.Views.{holding, settled, spent}

-- the pass may ask for the turn: it has a crew and no turn, and holds no state
pub record MayTake (deck : Deck) (me : Me BoardView View) : Type 0 where
  pub opened : me.0.opened.deck ≡ deck
  pub turn : me.0.turn ≡ false
  pub crew : 0 < length me.0.crews
  pub holds_none : me.1 ≡ []

-- the pass has the turn and holds the state, a state of the opened deck, whose history has of its crews what was made
-- with it
pub record HasTaken (before after : Me BoardView View) : Type 0 where
  pub history : List Entry
  pub view : after.0 ≡ holding history before.0
  pub state : after.1 ≡ (0, record { deck = before.0.opened.deck; history = history }) ∷ before.1
  pub crews : All (λ (made : Made). made.crew < length before.0.opened.deck.crews) before.0.crews
  pub made : All (λ (made : Made). entries_of made.crew history ≡ made.entries) before.0.crews

-- the history that goes back is what was taken, or has one entry more, of a crew of the pass
abbrev pub MayFollow : View → List Entry → Type 0
MayFollow v history = (history ≡ v.taken)
    ⊎ ((entry : Entry) × (history ≡ v.taken ++ entry ∷ []) × (0 < times_of entry.crew.0 v.crews))

-- the pass may give the turn back: it has it, and holds a state of the opened deck
pub record MayGive (deck : Deck) (me : Me BoardView View) : Type 0 where
  pub opened : me.0.opened.deck ≡ deck
  pub turn : me.0.turn ≡ true
  pub history : List Entry
  pub state : me.1 ≡ (0, record { deck = deck; history = history }) ∷ []
  pub follows : MayFollow me.0 history

-- the state went back, and what was made with the pass is what its history has
pub record HasGiven (before after : Me BoardView View) : Type 0 where
  pub board : BoardView
  pub state : before.1 ≡ (0, board) ∷ []
  pub view : after.0 ≡ settled board.history before.0
  pub holds_none : after.1 ≡ []

-- a step leaves a pass at its table, with its number
abbrev pub StaysPass : Seat BoardView View → Seat BoardView View → Type 0
StaysPass before after = (after.table_id ≡ before.table_id) × (after.id ≡ before.id)

-- the state that a place holds, if it holds one
abbrev pub held : List (ℕ × BoardView) → BoardView
held [] = spent.opened
held (first ∷ more) = first.1

-- what was made, with one entry more where there is one
abbrev pub made_with : Option Entry → List Entry → List Entry
made_with None made = made
made_with (Some entry) made = made ++ entry ∷ []
