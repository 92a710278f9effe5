-- The crews that lines say, and the first line's fault, as the format puts them.
use Rattle.std.specs.Prelude.{◌≡◌, ◌≢◌, ℕ, ◌+◌, ◌≤◌, true, false, List, [], ◌∷◌, ◌++◌, map, length, Result, Ok, Err}
use Rattle.std.specs.List.{flat_map}
use Rattle.fault_words.specs.{declared.place.Place.Place, Names.all_differ, Names.has_name}
use Rattle.crew_script.specs.{Dockets.names_of, Dockets.request_count, Says.Says}
use Rattle.crew_script.specs.{declared.dockets.TheConstants.MOST_CREWS, declared.dockets.TheConstants.MOST_REQUESTS}
use Rattle.crew_script.specs.{declared.dockets.Ask.Ask, declared.dockets.Crew.Crew, declared.line.Line.Line}
use Rattle.crew_script.specs.{declared.fault.CrewFault.CrewFault, declared.fault.CrewFault.TheVariants.Fault}
use Rattle.crew_script.specs.{declared.fault.CrewFault.TheVariants.NoMemory, declared.fault.CrewCode.CrewCode}
use Rattle.crew_script.specs.declared.line.Line.TheVariants as line
use Rattle.crew_script.specs.declared.fault.CrewCode.TheVariants.{BadLine, DuplicateCrew, RequestBeforeCrew}
use Rattle.crew_script.specs.declared.fault.CrewCode.TheVariants.{TooManyCrews, TooManyRequests}

-- the lines say these, one after the other; those that say nothing are left out
pub data Say : List (List ℕ) → List Line → Type 0 where
  say_none : Say [] []
  say_nothing : (bytes : List ℕ) (lines : List (List ℕ)) (more : List Line) → Says bytes line.Nothing → Say lines more
      → Say (bytes ∷ lines) more
  say_next : (bytes : List ℕ) (said : Line) (lines : List (List ℕ)) (more : List Line) → Says bytes said
      → said ≢ line.Nothing
      → Say lines more → Say (bytes ∷ lines) (said ∷ more)

-- what has to be said for a crew: its name, and then each of its requests
abbrev pub lines_for : Crew → List Line
lines_for crew = line.Crew crew.name ∷ map line.Request crew.docket

-- Lines stand for these crews: they say each crew and then its requests, one crew after the other. The names of the
-- crews differ, and there are no more crews and requests than may be.
pub record AreCrews (lines : List (List ℕ)) (crews : List Crew) : Type 0 where
  pub say : Say lines (flat_map lines_for crews)
  pub differ : all_differ (names_of crews) ≡ true
  pub few_crews : length crews ≤ MOST_CREWS
  pub few_requests : request_count crews ≤ MOST_REQUESTS

-- a line has this fault behind these crews
pub data HasFault : List Crew → List ℕ → CrewCode → Type 0 where
  bad_line : (crews : List Crew) (bytes : List ℕ) → ((said : Line) → ¬ Says bytes said) → HasFault crews bytes BadLine
  duplicate_crew : (crews : List Crew) (bytes name : List ℕ) → Says bytes (line.Crew name)
      → has_name (names_of crews) name ≡ true
      → HasFault crews bytes DuplicateCrew
  too_many_crews : (crews : List Crew) (bytes name : List ℕ) → Says bytes (line.Crew name)
      → has_name (names_of crews) name ≡ false
      → MOST_CREWS ≤ length crews → HasFault crews bytes TooManyCrews
  request_before_crew : (bytes : List ℕ) (ask : Ask) → Says bytes (line.Request ask)
      → HasFault [] bytes RequestBeforeCrew
  too_many_requests : (crews : List Crew) (bytes : List ℕ) (ask : Ask) → Says bytes (line.Request ask) → crews ≢ []
      → MOST_REQUESTS ≤ request_count crews → HasFault crews bytes TooManyRequests

-- the first fault of lines: the lines before stand for crews, and the line has a fault behind these
pub record IsFirstFault (number : ℕ) (lines : List (List ℕ)) (code : CrewCode) (place : Place) : Type 0 where
  pub before : List (List ℕ)
  pub bytes : List ℕ
  pub behind : List (List ℕ)
  pub crews : List Crew
  pub split : lines ≡ before ++ bytes ∷ behind
  pub stand : AreCrews before crews
  pub has : HasFault crews bytes code
  pub line : place.line ≡ number + length before
  pub column : place.column ≡ 1

-- the crews that the lines stand for, or their first fault
abbrev pub Answers : ℕ → List (List ℕ) → Result (List Crew) CrewFault → Type 0
Answers number lines (Ok crews) = AreCrews lines crews
Answers number lines (Err (Fault code place)) = IsFirstFault number lines code place
Answers number lines (Err NoMemory) = ⊥
