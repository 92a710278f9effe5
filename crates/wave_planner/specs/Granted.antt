-- Requests of a crew that are all granted, one after the other, and what they leave.
use Rattle.std.specs.Prelude.{◌≡◌, ℕ, false, List, [], ◌∷◌, Option}
use Rattle.unit_sets.specs.{UnitList.among, declared.request.CrewNo.CrewNo}
use Rattle.margin_policy.specs.{Asked.has_repeat, declared.request.Request.Request}
use Rattle.margin_policy.specs.{declared.request.Request.TheVariants.Take, declared.request.Reply.TheVariants.Granted}
use Rattle.margin_policy.specs.Standing.{StandingView, after, nothing_held, reply_of}
use Rattle.fault_definitions.specs.Tree.{FaultTree}
use Rattle.outage_board.specs.{Boards.Deck, Boards.deck_of, declared.entry.Entry.Entry}
use Rattle.wave_planner.specs.WavesText.{planner}

-- nothing is out
abbrev pub empty_board : ℕ → List (List ℕ) → ℕ → Option CrewNo → StandingView
empty_board units cuts margin supervisor = record {
  units = units;
  cuts = cuts;
  margin = margin;
  supervisor = supervisor;
  held = nothing_held units;
}

-- the take of one unit
abbrev pub take_one : ℕ → Request
take_one unit = Take (record { units = unit ∷ []; unknown = false })

-- each request is granted after those before it
abbrev pub AreGranted : StandingView → CrewNo → List Request → Type 0
AreGranted standing crew [] = Unit {0}
AreGranted standing crew (request ∷ requests) = (reply_of standing crew request ≡ Granted)
    × AreGranted (after standing crew request Granted) crew requests

-- the units of a wave in any order, each once
pub record IsOrderOf (wave order : List ℕ) : Type 0 where
  pub differ : has_repeat order ≡ false
  pub members : (unit : ℕ) → among order unit ≡ among wave unit

-- an entry of a history grants its request
abbrev pub IsGrant : Entry → Type 0
IsGrant entry = entry.reply ≡ Granted

-- the deck of a tree with a cut list, a margin, and the crew that takes and returns each wave
abbrev pub planned_deck : FaultTree → List (List ℕ) → ℕ → List (List ℕ) → Deck
planned_deck tree cuts margin waves = deck_of tree cuts (planner tree waves ∷ []) margin
