-- The rule of a board, over its word, the state at home and what all passes know.
use Rattle.std.specs.Prelude.{◌≡◌, ◌≢◌, ◌⊎◌, ℕ, ◌+◌, ◌<◌, ◌≤◌, ◌==◌, Bool, true, false, List, [], ◌∷◌, length, All}
use mathlib.Core.Option.{some, none}
use lib.ListN.{get_elem?}
use Rattle.atomic_table.specs.Table.{State}
use Rattle.std.specs.declared.snapshot.Snapshot.{Snapshot}
use Rattle.outage_board.specs.{declared.entry.Entry.Entry, declared.view.View.View, declared.view.Made.Made}
use Rattle.outage_board.specs.{Histories.entries_of, Boards.BoardView, Boards.Deck, Views.spent}

-- 1 where something is so, else 0
abbrev pub one_if : Bool → ℕ
one_if true = 1
one_if false = 0

-- how often a crew is among some
abbrev pub times_of : ℕ → List Made → ℕ
times_of crew [] = 0
times_of crew (made ∷ crews) = one_if (made.crew == crew) + times_of crew crews

-- how often a crew is a pass's
abbrev pub times_in : ℕ → List View → ℕ
times_in crew [] = 0
times_in crew (v ∷ views) = times_of crew v.crews + times_in crew views

-- nobody has the turn: the word is 0, and a state of the deck with the one history is at home
pub record Free (deck : Deck) (history : List Entry) (s : State BoardView View) : Type 0 where
  pub word : s.words ≡ 0 ∷ []
  pub home : s.homes ≡ some (record { deck = deck; history = history }) ∷ []
  pub none_turned : (seat : ℕ) (v : View) → get_elem? s.views seat ≡ some v → v.turn ≡ false

-- one pass has it, which has a crew and took the one history: the word is 1, and the state is out
pub record Busy (history : List Entry) (s : State BoardView View) : Type 0 where
  pub word : s.words ≡ 1 ∷ []
  pub home : s.homes ≡ none ∷ []
  pub seat : ℕ
  pub view : View
  pub at : get_elem? s.views seat ≡ some view
  pub turned : view.turn ≡ true
  pub took : view.taken ≡ history
  pub crew : 0 < length view.crews
  pub others : (other : ℕ) (v : View) → other ≢ seat → get_elem? s.views other ≡ some v → v.turn ≡ false

-- what a pass knows: the opened deck, some of its crews, and for each of them all entries of the one history that are
-- its own
pub record Knows (deck : Deck) (history : List Entry) (v : View) : Type 0 where
  pub opened : v ≢ spent → v.opened.deck ≡ deck
  pub crews : All (λ (made : Made). made.crew < length deck.crews) v.crews
  pub made : All (λ (made : Made). entries_of made.crew history ≡ made.entries) v.crews

-- There is one history. No crew is twice among those of all passes.
pub record KeepsTurns (about : Snapshot BoardView) (s : State BoardView View) : Type 0 where
  pub history : List Entry
  pub stands : Free about.value.deck history s ⊎ Busy history s
  pub views : (seat : ℕ) (v : View) → get_elem? s.views seat ≡ some v → Knows about.value.deck history v
  pub once : (crew : ℕ) → times_in crew s.views ≤ 1
