-- Passes whose crews are served.
use Rattle.std.specs.Prelude.{◌≡◌, ℕ, List, length, All}
use Rattle.outage_board.specs.{Histories.docket_of, Passes.Pass}

-- how many requests the crew of a pass has
abbrev pub docket_size : Pass → ℕ
docket_size pass = length (docket_of pass.board.deck.dockets pass.crew.0)

-- all requests of its crew were made with the pass
abbrev pub IsServed : Pass → Type 0
IsServed pass = length pass.made ≡ docket_size pass

-- with each of the passes all requests of its crew were made
abbrev pub AreServed : List Pass → Type 0
AreServed passes = All IsServed passes

-- it is a pass of the same crew of the same board
abbrev pub StaysPass : Pass → Pass → Type 0
StaysPass before after = (after.board ≡ before.board) × (after.crew ≡ before.crew)
