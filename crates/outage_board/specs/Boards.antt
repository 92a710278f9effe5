-- What contracts see of a board: the deck that it was opened for and its history; and the entry that serves a crew.
use Rattle.std.specs.Prelude.{◌≡◌, ℕ, ◌<◌, ◌≤◌, List, [], ◌∷◌, ◌++◌, map, length, All, Option, Some, None, slice_get}
use Rattle.unit_sets.specs.declared.request.CrewNo.{CrewNo}
use Rattle.fault_definitions.specs.Tree.{FaultTree, unit_count}
use Rattle.crew_script.specs.{Dockets.request_count, declared.dockets.Crew.Crew}
use Rattle.margin_policy.specs.{Holders.HoldersBelow, Holders.NamesCrewBelow, declared.request.Request.Request}
use Rattle.margin_policy.specs.Standing.{StandingView, IsRequestFor, reply_of, nothing_held}
use Rattle.outage_board.specs.{declared.entry.Entry.Entry, Requests.requests_of, Requests.supervisor_of}
use Rattle.outage_board.specs.Histories.{standing_after, IsLegal, IsWholeUpTo, served, docket_of}

-- what a board is opened for: how things stand at first, the crews, and the requests of each crew in order
pub record Deck : Type 0 where
  -- nothing is out, at the opening margin
  pub opening : StandingView
  pub crews : List Crew
  -- what each crew asks, by the units of the tree
  pub dockets : List (List Request)

-- the deck of a tree, its cut list, its crews and the opening margin
abbrev pub deck_of : FaultTree → List (List ℕ) → List Crew → ℕ → Deck
deck_of tree cuts crews margin = record {
  opening = record {
    units = unit_count tree;
    cuts = cuts;
    margin = margin;
    supervisor = supervisor_of crews;
    held = nothing_held (unit_count tree);
  };
  crews = crews;
  dockets = map (requests_of tree) crews;
}

-- a board: the deck that it was opened for, and the entries that were made on it, in order
pub record BoardView : Type 0 where
  pub deck : Deck
  pub history : List Entry

-- the standing that the history leaves
abbrev pub standing_of : BoardView → StandingView
standing_of board = standing_after board.deck.opening board.history

-- as many requests of a crew were served as its docket has
abbrev pub IsUsedUp : BoardView → ℕ → Type 0
IsUsedUp board crew = served crew board.history ≡ length (docket_of board.deck.dockets crew)

-- a request of a crew with the decision on it
abbrev pub entry_for : StandingView → CrewNo → ℕ → Option Request → Option Entry
entry_for standing crew place None = None
entry_for standing crew place (Some request) =
    Some (record { crew = crew; place = place; request = request; reply = reply_of standing crew request })

-- the entry of a crew's next request, where one is left
abbrev pub next_entry : BoardView → CrewNo → Option Entry
next_entry board crew = entry_for (standing_of board) crew (served crew.0 board.history)
    (slice_get (docket_of board.deck.dockets crew.0) (served crew.0 board.history))

-- the board with one entry more, where there is one
abbrev pub with_entry : BoardView → Option Entry → BoardView
with_entry board None = board
with_entry board (Some entry) = record board { history = board.history ++ entry ∷ [] }

-- What every board keeps: its history is legal, and whole up to what was served. An entry's place is within its
-- crew's docket and its request is one that the deck's standing may decide. Every crew that a reply names, and every
-- holder, is one of the crews. The history is not longer than all requests together.
pub record IsBoard (board : BoardView) : Type 0 where
  pub legal : IsLegal board.deck.opening board.history
  pub whole : IsWholeUpTo board.deck.dockets (λ crew. served crew board.history) board.history
  pub all : length board.deck.dockets ≡ length board.deck.crews
  pub nothing_out : board.deck.opening.held ≡ nothing_held board.deck.opening.units
  pub places : All (λ (entry : Entry). entry.place < length (docket_of board.deck.dockets entry.crew.0)) board.history
  pub requests : All (λ (entry : Entry). IsRequestFor board.deck.opening.units entry.request) board.history
  pub replies : All (λ (entry : Entry). NamesCrewBelow (length board.deck.crews) entry.reply) board.history
  pub holders : HoldersBelow (length board.deck.crews) (standing_of board).held
  pub few : length board.history ≤ request_count board.deck.crews
