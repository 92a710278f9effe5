-- Names as texts show them.
use Rattle.std.specs.Prelude.{ℕ, if◌then◌else◌, List, ◌++◌, codes}
use Rattle.fault_words.specs.Name.{is_bare_name}

-- a bare name as it is, and any other in quotes
abbrev pub show : List ℕ → List ℕ
show name = if is_bare_name name then name else codes "\"" ++ name ++ codes "\""

-- a name behind a blank
abbrev pub named : List ℕ → List ℕ
named name = codes " " ++ show name
