-- The text of the command `check`: that the deck is well formed, and how large it is.
use Rattle.std.specs.Prelude.{ℕ, List, [], ◌++◌, length, codes, decimal, Option, Some, None}
use Rattle.fault_definitions.specs.Tree.{FaultTree}
use Rattle.crew_script.specs.{Dockets.request_count, declared.dockets.Crew.Crew}
use Rattle.cut_texts.specs.CutsText.{titled_line}

-- `crews: N, requests: R`, where there is a crew part
abbrev pub crews_line : Option (List Crew) → List ℕ
crews_line None = []
crews_line (Some crews) = codes "crews: "
    ++ (decimal (length crews) ++ (codes ", requests: " ++ (decimal (request_count crews) ++ codes "\n")))

-- `well formed: U units, G gates, top NAME`, and the line of the crews
abbrev pub check_text : FaultTree → Option (List Crew) → List ℕ
check_text tree crews = titled_line (codes "well formed: ") tree ++ crews_line crews
