-- What follows the text of cut sets for the command `board`: the log and the board at its end.
use Rattle.std.specs.Prelude.{◌≡◌, ℕ, ◌+◌, Bool, true, false, ◌&&◌, List, [], ◌∷◌, ◌++◌, length, map, codes, decimal}
use Rattle.std.specs.Prelude.{Option, Some, None, if◌then◌else◌}
use Rattle.std.specs.List.{flat_map, list_any}
use Rattle.unit_sets.specs.declared.request.CrewNo.{CrewNo}
use Rattle.fault_definitions.specs.Tree.{FaultTree, unit_count, name_of}
use Rattle.residual_ledger.specs.Residual.{residual}
use Rattle.crew_script.specs.declared.dockets.Crew.{Crew}
use Rattle.margin_policy.specs.Held.{Held, holder_of, units_out}
use Rattle.margin_policy.specs.{Decide.is_granted, Standing.StandingView, declared.request.Request.Request}
use Rattle.margin_policy.specs.declared.request.Request.TheVariants.{Take, Return, Margin}
use Rattle.outage_board.specs.{declared.entry.Entry.Entry, Requests.requests_of}
use Rattle.outage_board.specs.Boards.{Deck, BoardView, standing_of}
use Rattle.text_pieces.specs.Shown.{show}
use Rattle.board_report.specs.LogText.{crew_shown, log_text}

-- a deck has the units of a tree, and its requests are what its crews ask by these units
pub record IsDeckOf (tree : FaultTree) (deck : Deck) : Type 0 where
  pub units : deck.opening.units ≡ unit_count tree
  pub dockets : deck.dockets ≡ map (requests_of tree) deck.crews

-- `margin: M`
abbrev pub margin_line : ℕ → List ℕ
margin_line margin = codes "margin: " ++ (decimal margin ++ codes "\n")

-- ---- the margin at the end

-- a request is the wish for a margin
abbrev pub is_margin : Request → Bool
is_margin (Take asked) = false
is_margin (Return unit) = false
is_margin (Margin number) = true

-- a margin request was granted
abbrev pub grants_margin : Entry → Bool
grants_margin entry = is_margin entry.request && is_granted entry.reply

-- `margin now: M`, where some margin request was granted
abbrev pub margin_now : List Entry → ℕ → List ℕ
margin_now history margin = if list_any grants_margin history then codes "margin now: "
    ++ (decimal margin ++ codes "\n") else []

-- ---- the units that are out

-- a blank and the name of the holder, where there is one
abbrev pub holder_text : List Crew → Option CrewNo → List ℕ
holder_text crews None = []
holder_text crews (Some holder) = codes " " ++ crew_shown crews holder

-- `NAME CREW`
abbrev pub out_line : FaultTree → List Crew → Held → ℕ → List ℕ
out_line tree crews held unit = show (name_of tree unit) ++ (holder_text crews (holder_of held unit) ++ codes "\n")

-- `out: N`
abbrev pub out_head : ℕ → List ℕ
out_head count = codes "out: " ++ (decimal count ++ codes "\n")

-- the units that are out with their holders, by the units' numbers
abbrev pub out_text : FaultTree → List Crew → Held → List ℕ
out_text tree crews held = out_head (length (units_out held)) ++ flat_map (out_line tree crews held) (units_out held)

-- ---- what is left of each cut set

-- `left K: R of S`
abbrev pub left_line : ℕ → ℕ → ℕ → List ℕ
left_line number left size = codes "left "
    ++ (decimal number ++ (codes ": " ++ (decimal left ++ (codes " of " ++ (decimal size ++ codes "\n")))))

-- how many members of each cut set are not out, and how many it has, numbered from this number on
abbrev pub left_lines : List ℕ → ℕ → List (List ℕ) → List ℕ
left_lines out number [] = []
left_lines out number (cut ∷ cuts) = left_line number (residual out cut) (length cut)
    ++ left_lines out (number + 1) cuts

-- ---- all of it

-- the units that are out, and what is left
abbrev pub end_text : FaultTree → List Crew → StandingView → List ℕ
end_text tree crews standing = out_text tree crews standing.held ++ left_lines (units_out standing.held) 1 standing.cuts

-- the opening margin, the log, the margin now, where one was granted, the units out, and what is left of each cut set
abbrev pub board_text : FaultTree → BoardView → List ℕ
board_text tree board =
    margin_line board.deck.opening.margin
    ++ (log_text board.deck.crews board.history
    ++ (margin_now board.history (standing_of board).margin
    ++ end_text tree board.deck.crews (standing_of board)))
