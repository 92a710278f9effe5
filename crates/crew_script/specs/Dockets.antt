-- Crews and their requests.
use Rattle.std.specs.Prelude.{◌≡◌, ℕ, ◌+◌, ◌≤◌, true, List, [], ◌∷◌, map, length, get_or}
use Rattle.std.specs.List.{All}
use Rattle.deck_limits.specs.declared.TheConstants.{GREATEST_MARGIN}
use Rattle.fault_words.specs.{Name.is_name, Names.all_differ}
use Rattle.crew_script.specs.declared.dockets.TheConstants.{MOST_CREWS, MOST_REQUESTS}
use Rattle.crew_script.specs.declared.dockets.Ask.{Ask}
use Rattle.crew_script.specs.declared.dockets.Ask.TheVariants.{Take, Return, Margin}
use Rattle.crew_script.specs.declared.dockets.Crew.{Crew}

-- the names of crews
abbrev pub names_of : List Crew → List (List ℕ)
names_of crews = map (λ (crew : Crew). crew.name) crews

-- how many requests all crews have together
abbrev pub request_count : List Crew → ℕ
request_count [] = 0
request_count (crew ∷ crews) = length crew.docket + request_count crews

-- the crew with this number
abbrev pub crew_at : List Crew → ℕ → Crew
crew_at crews number = get_or crews number (record { name = []; docket = [] })

-- its request at this place, from 0
abbrev pub ask_at : List Crew → ℕ → ℕ → Ask
ask_at crews number place = get_or (crew_at crews number).docket place (Margin 0)

-- the number of a margin is the greatest at most
abbrev pub HasMargin : Ask → Type 0
HasMargin (Take names) = Unit {0}
HasMargin (Return name) = Unit {0}
HasMargin (Margin number) = number ≤ GREATEST_MARGIN

-- no request of the crew is for a margin above the greatest
abbrev pub HasMargins : Crew → Type 0
HasMargins crew = All HasMargin crew.docket

-- the crews have names, and no name stands twice
pub record AreNamed (crews : List Crew) : Type 0 where
  pub names : All (λ name. is_name name ≡ true) (names_of crews)
  pub differ : all_differ (names_of crews) ≡ true

-- crews with names that differ, no more of them and of their requests than may be, and no margin above the greatest
pub record IsDockets (crews : List Crew) : Type 0 where
  pub few_crews : length crews ≤ MOST_CREWS
  pub named : AreNamed crews
  pub few_requests : request_count crews ≤ MOST_REQUESTS
  pub margins : All HasMargins crews
