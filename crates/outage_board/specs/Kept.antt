-- What the fields of a board keep.
use Rattle.std.specs.Prelude.{◌≡◌, ℕ, ◌+◌, ◌-◌, ◌≤◌, ◌<◌, List, [], ◌∷◌, length, get_or}
use Rattle.std.specs.List.{All}
use Rattle.crew_script.specs.declared.dockets.TheConstants.{MOST_CREWS, MOST_REQUESTS}
use Rattle.crew_script.specs.Dockets.{request_count}
use Rattle.margin_policy.specs.Standing.{StandingView, IsRequestFor, nothing_held}
use Rattle.margin_policy.specs.declared.request.Request.{Request}
use Rattle.outage_board.specs.Histories.{served}
use Rattle.outage_board.specs.Boards.{BoardView, IsBoard, standing_of}

-- a standing with nothing out, at a margin
abbrev pub emptied : ℕ → StandingView → StandingView
emptied margin standing = record standing { margin = margin; held = nothing_held standing.units }

-- how many requests are left, where each crew has so many served
abbrev pub left_in : List (List Request) → List ℕ → ℕ
left_in [] places = 0
left_in (docket ∷ dockets) [] = 0
left_in (docket ∷ dockets) (place ∷ places) = (length docket - place) + left_in dockets places

-- The standing is what the history leaves, each crew's next place is how many of its requests were served, the
-- entries and what is left are all requests, for whose entries there is room, and every request may be decided.
pub record KeepsBoard (board : BoardView) (standing : StandingView) (next : List ℕ) (reserved : ℕ) : Type 0 where
  pub sound : IsBoard board
  pub leaves : standing ≡ standing_of board
  pub all : length next ≡ length board.deck.dockets
  pub places : (crew : ℕ) → crew < length next → get_or next crew 0 ≡ served crew board.history
  pub fits : All (All (IsRequestFor standing.units)) board.deck.dockets
  pub total : length board.history + left_in board.deck.dockets next ≡ request_count board.deck.crews
  pub room : request_count board.deck.crews ≤ reserved
  pub short : All (λ docket. length docket ≤ MOST_REQUESTS) board.deck.dockets
  pub few : length board.deck.dockets ≤ MOST_CREWS
