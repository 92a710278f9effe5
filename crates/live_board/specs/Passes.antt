-- What contracts see of a live board and of its passes.
use Rattle.std.specs.Prelude.{◌≡◌, ℕ, ◌+◌, ◌≤◌, false, List, [], ◌∷◌, length}
use Rattle.atomic_table.specs.{Table.Me, Seated.TableId}
use Rattle.unit_sets.specs.declared.request.CrewNo.{CrewNo}
use Rattle.margin_policy.specs.{declared.request.Request.Request, declared.request.Reply.Reply}
use Rattle.outage_board.specs.declared.entry.Entry.{Entry}
use Rattle.live_board.specs.declared.entry.LiveEntry.{LiveEntry}
use Rattle.live_board.specs.declared.entry.TheConstants.{MOST_PASSES}
use Rattle.live_board.specs.{declared.view.View.View, declared.view.Own.Own}
use Rattle.live_board.specs.{Boards.Setup, Boards.LiveView, Views.numbers_from, Views.nothing_under}
use Rattle.live_board.specs.Views.{made_under}

-- which board it is, and what it was opened for
pub record OpenLive : Type 0 where
  pub table : TableId
  pub setup : Setup

-- The board of a pass, its number, its numbers to spare, the history that it has seen, and the numbers that are its
-- own, each with the entries that were made under it.
pub record LivePass : Type 0 where
  pub board : OpenLive
  pub number : ℕ
  pub spare : List ℕ
  pub seen : List LiveEntry
  pub own : List Own

-- the pass of a view, on the board of this table
abbrev pub pass_of : TableId → View → LivePass
pass_of table v = record {
  board = record { table = table; setup = v.opened.setup };
  number = v.number;
  spare = v.spare;
  seen = v.seen;
  own = v.own;
}

-- a new pass with this number, which has seen so much, has made nothing and has no number to spare
abbrev pub new_pass : OpenLive → ℕ → List LiveEntry → LivePass
new_pass board number seen =
    record { board = board; number = number; spare = []; seen = seen; own = nothing_under number ∷ [] }

-- the first pass of a board: it has the number 0, has seen nothing, and has all other numbers to spare
abbrev pub first_pass : OpenLive → List ℕ → LivePass
first_pass board spare =
    record { board = board; number = 0; spare = spare; seen = []; own = nothing_under 0 ∷ [] }

-- The entry that a call with a pass makes. Its place is how many were made under the pass's number before.
abbrev pub call_made : LivePass → CrewNo → Request → Reply → LiveEntry
call_made pass crew request reply = record {
  pass = pass.number;
  entry = record {
    crew = crew;
    place = length (made_under pass.number pass.own);
    request = request;
    reply = reply;
  };
}

-- the first of the numbers of a pass is its own, and so many entries were made under it
pub record IsFirst (own : List Own) (number count : ℕ) : Type 0 where
  pub entries : List Entry
  pub others : List Own
  pub is : own ≡ record { pass = number; entries = entries } ∷ others
  pub long : count ≡ length entries

-- What the fields of a pass keep: its number and how many entries were made under it, and its numbers to spare, which
-- are so many from a first one on. It has found out all that it was told, has not the turn, and holds no state.
pub record IsPass (me : Me LiveView View) (name next first left : ℕ) : Type 0 where
  pub number : me.0.number ≡ name
  pub own : IsFirst me.0.own name next
  pub spare : me.0.spare ≡ numbers_from first left
  pub few : first + left ≤ MOST_PASSES
  pub told : me.0.told ≡ []
  pub turn : me.0.turn ≡ false
  pub holds_none : me.1 ≡ []
