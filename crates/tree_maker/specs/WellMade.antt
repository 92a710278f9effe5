-- What a made deck stands for: a tree, and one crew with its requests.
use Rattle.std.specs.Prelude.{◌≡◌, ℕ, ◌+◌, ◌*◌, ◌≤◌, List, [], ◌∷◌, ◌++◌, length, map, codes, Some, Ok}
use Rattle.std.specs.List.{flat_map, range_with_len}
use Rattle.fault_definitions.specs.Tree.{FaultTree, unit_count, gate_count}
use Rattle.edge_io.specs.declared.reading.TheConstants.{INPUT_LIMIT}
use Rattle.crew_script.specs.declared.dockets.Ask.{Ask}
use Rattle.crew_script.specs.declared.dockets.Ask.TheVariants.{Take, Return}
use Rattle.crew_script.specs.declared.dockets.Crew.{Crew}
use Rattle.deck_reading.specs.Deck.{StandsFor, crew_part}
use Rattle.tree_maker.specs.Names.{unit_name, units_in}
use Rattle.tree_maker.specs.MadeDeck.{group_count, fdep_count, return_count, groups}

-- the requests: each unit of a group is taken by itself, and then the first of each even group is returned
abbrev pub made_requests : ℕ → List Ask
made_requests number =
    flat_map (λ group. map (λ name. Take (name ∷ [])) (units_in group)) (groups number)
    ++ map (λ k. Return (unit_name (2 * k) (codes "a"))) (range_with_len 0 (return_count number))

-- the crew `maker` with them
abbrev pub made_crew : ℕ → Crew
made_crew number = record { name = codes "maker"; docket = made_requests number }

-- The bytes are a deck without a fault, of this tree, which has so many units and gates, and of the one crew. They are
-- no more than an input may have.
pub record IsWellMade (number : ℕ) (bytes : List ℕ) (tree : FaultTree) : Type 0 where
  pub stands : StandsFor bytes tree
  pub units : unit_count tree ≡ 3 * group_count number + 10
  pub gates : gate_count tree ≡ 1 + group_count number + fdep_count number
  pub crews : crew_part bytes ≡ Some (Ok (made_crew number ∷ []))
  pub short : length bytes ≤ INPUT_LIMIT
