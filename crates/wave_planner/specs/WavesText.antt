-- The text of waves, which is a crew part: one crew takes the units of a wave one by one, and then returns them.
use Rattle.std.specs.Prelude.{◌≡◌, ℕ, true, List, [], ◌∷◌, ◌++◌, map, All, Ok, codes}
use Rattle.std.specs.List.{flat_map}
use Rattle.fault_definitions.specs.Tree.{FaultTree, name_of}
use Rattle.fault_words.specs.Name.{is_name}
use Rattle.crew_script.specs.{CrewsOf.Answers, Deck.lines_of}
use Rattle.crew_script.specs.{declared.dockets.Ask.Ask, declared.dockets.Crew.Crew}
use Rattle.crew_script.specs.declared.dockets.Ask.TheVariants.{Take, Return}
use Rattle.text_pieces.specs.Shown.{named}

-- a word and the name of a unit
abbrev pub unit_line : List ℕ → FaultTree → ℕ → List ℕ
unit_line word tree unit = word ++ (named (name_of tree unit) ++ codes "\n")

-- a line with the word for each unit
abbrev pub unit_lines : List ℕ → FaultTree → List ℕ → List ℕ
unit_lines word tree wave = flat_map (unit_line word tree) wave

-- `take NAME` for each unit, and then `return NAME` for each
abbrev pub wave_lines : FaultTree → List ℕ → List ℕ
wave_lines tree wave = unit_lines (codes "take") tree wave ++ unit_lines (codes "return") tree wave

-- the crew `planner`, and then the lines of each wave
abbrev pub waves_text : FaultTree → List (List ℕ) → List ℕ
waves_text tree waves = codes "crew planner\n" ++ flat_map (wave_lines tree) waves

-- ---- what the lines say

-- what the lines of a wave ask for
abbrev pub wave_asks : FaultTree → List ℕ → List Ask
wave_asks tree wave = map (λ unit. Take (name_of tree unit ∷ [])) wave ++ map (λ unit. Return (name_of tree unit)) wave

-- the crew of the text
abbrev pub planner : FaultTree → List (List ℕ) → Crew
planner tree waves = record { name = codes "planner"; docket = flat_map (wave_asks tree) waves }

-- the lines say this crew and have no fault, whatever the number of the first
abbrev pub SaysPlanner : FaultTree → List (List ℕ) → Type 0
SaysPlanner tree waves = (number : ℕ) → Answers number (lines_of (waves_text tree waves)) (Ok (planner tree waves ∷ []))

-- the names of some units have the form of names
abbrev pub HaveNames : FaultTree → List ℕ → Type 0
HaveNames tree units = All (λ unit. is_name (name_of tree unit) ≡ true) units
