-- What may be asked of a run, and the seat that it needs.
use Rattle.std.specs.Prelude.{◌≡◌, ℕ, ◌≤◌, List, Some}
use Rattle.board_words.specs.{Command.command_of, declared.command.Command.TheVariants.Board}
use Rattle.deck_limits.specs.declared.TheConstants.{GREATEST_MARGIN, MOST_ORDERED, MOST_WORKERS}
use Rattle.zdd_build.specs.declared.building.TheConstants.{TEAM_SHARE}
use Rattle.zdd_shared_table.specs.Seats.{Seated, TableId}
use Rattle.outage_engine.specs.{declared.means.Asked.Asked, declared.means.BoardAsked.BoardAsked}

-- so many workers may be asked for
pub record AreWorkers (workers : ℕ) : Type 0 where
  pub some : 1 ≤ workers
  pub few : workers ≤ MOST_WORKERS

-- the failing orders of sets of at most so many members may be asked for, and so many workers
pub record IsAskable (asked : Asked) : Type 0 where
  pub most : asked.most ≤ MOST_ORDERED
  pub workers : AreWorkers asked.workers

-- and a board may be asked for that opens at this margin
pub record IsBoardAskable (board : BoardAsked) : Type 0 where
  pub margin : board.margin ≤ GREATEST_MARGIN
  pub asked : IsAskable board.asked

-- the words are the command `board` with these numbers
abbrev pub SaysBoard : List (List ℕ) → BoardAsked → Type 0
SaysBoard words board = command_of words ≡ Some (Board board.margin board.asked.most board.asked.workers)

-- the seat is one of this store, and has share enough for the workers that make diagrams
pub record IsSeatFor (store : TableId) (seat : Seated) : Type 0 where
  pub own : seat.store ≡ store
  pub share : TEAM_SHARE ≤ seat.share
