-- What contracts see of a live board, and what is asked of it.
use Rattle.std.specs.Prelude.{◌≡◌, ℕ, ◌+◌, ◌<◌, ◌≤◌, List, [], ◌∷◌, ◌++◌, length, Option}
use Rattle.unit_sets.specs.declared.request.CrewNo.{CrewNo}
use Rattle.margin_policy.specs.{declared.request.Reply.Reply, Standing.StandingView, Standing.nothing_held}
use Rattle.margin_policy.specs.Standing.{reply_of}
use Rattle.live_board.specs.declared.entry.LiveEntry.{LiveEntry}
use Rattle.live_board.specs.declared.entry.Call.{Call}
use Rattle.live_board.specs.declared.entry.Answer.{Answer}
use Rattle.live_board.specs.declared.entry.Answer.TheVariants.{Answered, HistoryFull}
use Rattle.live_board.specs.declared.entry.TheConstants.{MOST_ENTRIES}
use Rattle.live_board.specs.Histories.{IsLiveHistory, standing_left}

-- what a board is opened for: how things stand at first, how many passes there may be, and how many entries
pub record Setup : Type 0 where
  -- nothing is out, at the opening margin
  pub opening : StandingView
  pub passes : ℕ
  pub room : ℕ

-- the setup of so many units, a cut list, the opening margin and a supervisor
abbrev pub setup_of : ℕ → List (List ℕ) → ℕ → Option CrewNo → ℕ → ℕ → Setup
setup_of units cuts margin supervisor passes room = record {
  opening = record {
    units = units;
    cuts = cuts;
    margin = margin;
    supervisor = supervisor;
    held = nothing_held units;
  };
  passes = passes;
  room = room;
}

-- the state of a board: what it was opened for, and the entries that were made on it, in order
pub record LiveView : Type 0 where
  pub setup : Setup
  pub history : List LiveEntry

-- what every state keeps: its history is a live history from the opening standing, for which there is room
pub record IsLive (state : LiveView) : Type 0 where
  pub live : IsLiveHistory state.setup.opening state.history
  pub few : length state.history ≤ state.setup.room
  pub limit : state.setup.room ≤ MOST_ENTRIES

-- the reply to what is asked of a state
abbrev pub decision : LiveView → Call → Reply
decision state call = reply_of (standing_left state.setup.opening state.history) call.crew call.request

-- the entry of a call with its reply
abbrev pub replied : Call → Reply → LiveEntry
replied call reply = record {
  pass = call.pass;
  entry = record { crew = call.crew; place = call.place; request = call.request; reply = reply };
}

-- an answer is right: the decision where the history has less than its room, and else that it is full
abbrev pub IsAnswer : LiveView → Call → Answer → Type 0
IsAnswer state call (Answered reply) = (reply ≡ decision state call) × (length state.history < state.setup.room)
IsAnswer state call HistoryFull = length state.history ≡ state.setup.room

-- the state after an answer: one with a reply is kept as an entry
abbrev pub after_answer : LiveView → Call → Answer → LiveView
after_answer state call (Answered reply) = record state { history = state.history ++ replied call reply ∷ [] }
after_answer state call HistoryFull = state

-- the place of the next entry: one with a reply stands at this one
abbrev pub next_place : Answer → ℕ → ℕ
next_place (Answered reply) place = place + 1
next_place HistoryFull place = place

-- something is so of the reply, where there is one
abbrev pub IfAnswered : Answer → (Reply → Type 0) → Type 0
IfAnswered (Answered reply) holds = holds reply
IfAnswered HistoryFull holds = Unit {0}

-- something is so where the history was full
abbrev pub IfFull : Answer → Type 0 → Type 0
IfFull (Answered reply) holds = Unit {0}
IfFull HistoryFull holds = holds
