-- The crew that a line is of.
use Rattle.std.specs.Prelude.{ℕ, ◌==◌, List, [], ◌∷◌, ◌++◌, Option, Some, None, if◌then◌else◌, codes, decimal}
use Rattle.std.specs.List.{before_first}
use Rattle.unit_sets.specs.declared.request.CrewNo.{CrewNo}
use Rattle.crew_script.specs.declared.dockets.Crew.{Crew}
use Rattle.outage_board.specs.Requests.{crew_from}
use Rattle.board_audit.specs.Pieces.{behind}

-- the name that a text begins with, as texts show names: up to the other quotation mark, or up to the first blank
abbrev pub front_name : List ℕ → List ℕ
front_name [] = []
front_name (first ∷ rest) = if first == 34 then before_first (λ byte. byte == 34) rest
    else before_first (λ byte. byte == 32) (first ∷ rest)

-- the crew with the name that a text begins with
abbrev pub crew_in_front : List Crew → Option (List ℕ) → Option CrewNo
crew_in_front crews None = None
crew_in_front crews (Some text) = crew_from 0 crews (front_name text)

-- the crew whose name stands behind this number and a blank at the front of a text
abbrev pub crew_of_line : List Crew → ℕ → List ℕ → Option CrewNo
crew_of_line crews number text = crew_in_front crews (behind (decimal number ++ codes " ") text)
