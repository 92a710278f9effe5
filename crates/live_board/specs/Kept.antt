-- What the fields of a state keep.
use Rattle.std.specs.Prelude.{◌≡◌, ℕ, ◌≤◌}
use Rattle.margin_policy.specs.Standing.{StandingView}
use Rattle.live_board.specs.{Boards.LiveView, Boards.IsLive, Histories.standing_left}

-- the standing is what the history leaves, and the history's whole room is reserved
pub record KeepsState (state : LiveView) (standing : StandingView) (reserved : ℕ) : Type 0 where
  pub sound : IsLive state
  pub leaves : standing ≡ standing_left state.setup.opening state.history
  pub room : state.setup.room ≤ reserved
