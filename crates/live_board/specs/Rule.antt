-- The rule of a live board, over its word, the state at home and what all passes know.
use Rattle.std.specs.Prelude.{◌≡◌, ◌≢◌, ◌⊎◌, ℕ, ◌+◌, ◌<◌, ◌≤◌, ◌==◌, true, false, List, [], ◌∷◌, map}
use mathlib.Core.Option.{some, none}
use lib.ListN.{get_elem?}
use Rattle.atomic_table.specs.Table.{State}
use Rattle.std.specs.declared.snapshot.Snapshot.{Snapshot}
use Rattle.outage_board.specs.Rule.{one_if}
use Rattle.live_board.specs.declared.entry.LiveEntry.{LiveEntry}
use Rattle.live_board.specs.{declared.view.View.View, declared.view.Own.Own}
use Rattle.live_board.specs.{Histories.BeginsWith, Boards.Setup, Boards.LiveView}
use Rattle.live_board.specs.Views.{spent, AreOwn, AreUnused}

-- how often a number is among some
abbrev pub times_among : ℕ → List ℕ → ℕ
times_among number [] = 0
times_among number (other ∷ numbers) = one_if (other == number) + times_among number numbers

-- the numbers under which a pass has entries
abbrev pub numbers_of : List Own → List ℕ
numbers_of own = map (λ (o : Own). o.pass) own

-- how often a number is a pass's, with those to spare
abbrev pub times_of : ℕ → View → ℕ
times_of number v = times_among number (numbers_of v.own) + times_among number v.spare

-- how often a number is one of all passes
abbrev pub times_in : ℕ → List View → ℕ
times_in number [] = 0
times_in number (v ∷ views) = times_of number v + times_in number views

-- no number stands twice
abbrev pub HasEachOnce : List Own → Type 0
HasEachOnce own = (number : ℕ) → times_among number (numbers_of own) ≤ 1

-- a pass is of the board with a setup, and its number is one of its own
pub record IsOf (setup : Setup) (v : View) : Type 0 where
  pub opened : v.opened.setup ≡ setup
  pub named : 0 < times_among v.number (numbers_of v.own)

-- nobody has the turn: the word is 0, and a state of the setup with the one history is at home
pub record Free (setup : Setup) (history : List LiveEntry) (s : State LiveView View) : Type 0 where
  pub word : s.words ≡ 0 ∷ []
  pub home : s.homes ≡ some (record { setup = setup; history = history }) ∷ []
  pub none_turned : (seat : ℕ) (v : View) → get_elem? s.views seat ≡ some v → v.turn ≡ false

-- one pass has it, which sees the one history: the word is 1, and the state is out
pub record Busy (history : List LiveEntry) (s : State LiveView View) : Type 0 where
  pub word : s.words ≡ 1 ∷ []
  pub home : s.homes ≡ none ∷ []
  pub seat : ℕ
  pub view : View
  pub at : get_elem? s.views seat ≡ some view
  pub turned : view.turn ≡ true
  pub sees : view.seen ≡ history
  pub others : (other : ℕ) (v : View) → other ≢ seat → get_elem? s.views other ≡ some v → v.turn ≡ false

-- What a pass knows: that it is of the board, a beginning of the one history, and for each of its numbers exactly the
-- entries that the one history has of it. No entry has a number to spare. What it was told begins what it has seen.
pub record Knows (setup : Setup) (history : List LiveEntry) (v : View) : Type 0 where
  pub of : v ≢ spent → IsOf setup v
  pub seen : BeginsWith history v.seen
  pub told : BeginsWith v.seen v.told
  pub own : AreOwn history v.own
  pub spare : AreUnused history v.spare

-- There is one history. No number is twice among those of all passes, in use or to spare.
pub record KeepsHistory (about : Snapshot LiveView) (s : State LiveView View) : Type 0 where
  pub history : List LiveEntry
  pub stands : Free about.value.setup history s ⊎ Busy history s
  pub views : (seat : ℕ) (v : View) → get_elem? s.views seat ≡ some v → Knows about.value.setup history v
  pub once : (number : ℕ) → times_in number s.views ≤ 1
