-- What the steps of a live board tell the pass that makes them.
use Rattle.std.specs.Prelude.{◌≡◌, ◌⊎◌, ℕ, true, false, List, [], ◌∷◌, ◌++◌}
use Rattle.atomic_table.specs.{Table.Me, declared.shared.Seat.Seat}
use Rattle.live_board.specs.declared.entry.LiveEntry.{LiveEntry}
use Rattle.live_board.specs.declared.entry.Call.{Call}
use Rattle.live_board.specs.declared.entry.Answer.{Answer}
use Rattle.live_board.specs.declared.view.View.{View}
use Rattle.live_board.specs.{Histories.BeginsWith, Boards.Setup, Boards.LiveView, Boards.IsLive, Boards.IsAnswer}
use Rattle.live_board.specs.{Boards.after_answer, Rule.IsOf, Rule.HasEachOnce}
use Rattle.live_board.specs.Views.{holding, settled, longer, shorter, together, looked, spent, AreOwn}

-- the pass may step: it is of the board, has not the turn and holds no state
pub record IsIdle (setup : Setup) (me : Me LiveView View) : Type 0 where
  pub of : IsOf setup me.0
  pub turn : me.0.turn ≡ false
  pub holds_none : me.1 ≡ []

-- the state of a board with a history
abbrev pub state_of : View → List LiveEntry → LiveView
state_of v history = record { setup = v.opened.setup; history = history }

-- The pass has the turn and holds the state, whose history begins with what it had seen, and has of each of its numbers
-- what was made under it.
pub record HasTaken (before after : Me LiveView View) : Type 0 where
  pub history : List LiveEntry
  pub view : after.0 ≡ holding history before.0
  pub state : after.1 ≡ (0, state_of before.0 history) ∷ before.1
  pub begins : BeginsWith history before.0.seen
  pub own : AreOwn history before.0.own

-- the history that goes back is what was taken, or has one entry more with the pass's number
abbrev pub MayFollow : View → List LiveEntry → Type 0
MayFollow v history = (history ≡ v.seen)
    ⊎ ((made : LiveEntry) × (history ≡ v.seen ++ made ∷ []) × (made.pass ≡ v.number))

-- the pass may give the turn back: it has it, and holds a state of the board
pub record MayGive (setup : Setup) (me : Me LiveView View) : Type 0 where
  pub of : IsOf setup me.0
  pub turn : me.0.turn ≡ true
  pub history : List LiveEntry
  pub state : me.1 ≡ (0, record { setup = setup; history = history }) ∷ []
  pub follows : MayFollow me.0 history

-- the state went back, and the pass has seen its history
pub record HasGiven (before after : Me LiveView View) : Type 0 where
  pub left : LiveView
  pub state : before.1 ≡ (0, left) ∷ []
  pub view : after.0 ≡ settled left.history before.0
  pub holds_none : after.1 ≡ []

-- the pass found out that what it was told begins what it has seen, and that none of its numbers stands twice
pub record HasLooked (before after : Me LiveView View) : Type 0 where
  pub view : after.0 ≡ looked before.0
  pub holds : after.1 ≡ before.1
  pub begins : BeginsWith before.0.seen before.0.told
  pub once : HasEachOnce before.0.own

-- the pass took in another, and found out that the shorter of the two histories begins the longer
pub record HasJoined (before other after : Me LiveView View) : Type 0 where
  pub view : after.0 ≡ looked (together before.0 other.0)
  pub holds : after.1 ≡ before.1
  pub begins : BeginsWith (longer before.0.seen other.0.seen) (shorter before.0.seen other.0.seen)
  pub once : HasEachOnce (together before.0 other.0).own

-- a step leaves a pass at its table, with its number there
abbrev pub StaysPlace : Seat LiveView View → Seat LiveView View → Type 0
StaysPlace before after = (after.table_id ≡ before.table_id) × (after.id ≡ before.id)

-- the state that a place holds, if it holds one
abbrev pub held : List (ℕ × LiveView) → LiveView
held [] = spent.opened
held (first ∷ more) = first.1

-- The pass had the turn. The history that it found begins with what it had seen and has of each of its numbers what was
-- made under it. The history that it left is what it now has seen.
pub record HasHadTurn (before : Me LiveView View) (found left : List LiveEntry)
    (after : Me LiveView View) : Type 0 where
  pub begins : BeginsWith found before.0.seen
  pub own : AreOwn found before.0.own
  pub view : after.0 ≡ settled left before.0
  pub holds_none : after.1 ≡ []

-- a call was answered in the pass's turn: the right answer at the history that it found, and the state after it is left
pub record HasAsked (before : Me LiveView View) (call : Call) (answer : Answer)
    (after : Me LiveView View) : Type 0 where
  pub found : List LiveEntry
  pub right : IsAnswer (state_of before.0 found) call answer
  pub live : IsLive (after_answer (state_of before.0 found) call answer)
  pub turn : HasHadTurn before found (after_answer (state_of before.0 found) call answer).history after
