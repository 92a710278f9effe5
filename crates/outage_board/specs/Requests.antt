-- What the crews of a deck ask of a board, by the units of the deck's tree.
use Rattle.std.specs.Prelude.{ℕ, suc, Bool, nat_le, List, [], ◌∷◌, map, Option, Some, None, is_none, if◌then◌else◌}
use Rattle.std.specs.Prelude.{codes}
use Rattle.std.specs.List.{list_any}
use Rattle.unit_sets.specs.declared.request.CrewNo.{CrewNo}
use Rattle.fault_definitions.specs.Tree.{FaultTree, unit_count}
use Rattle.fault_words.specs.Names.{same_name}
use Rattle.crew_script.specs.{declared.dockets.Ask.Ask, declared.dockets.Crew.Crew}
use Rattle.crew_script.specs.declared.dockets.Ask.TheVariants as asks
use Rattle.margin_policy.specs.declared.request.Request.{Request}
use Rattle.margin_policy.specs.declared.request.Request.TheVariants.{Take, Return, Margin}

-- the number of the first of some names that is a given one, counted from a number on
abbrev pub unit_from : ℕ → List (List ℕ) → List ℕ → Option ℕ
unit_from number [] name = None
unit_from number (other ∷ names) name = if same_name other name then Some number
    else unit_from (suc number) names name

-- a node, where it is a unit
abbrev pub only_unit : FaultTree → Option ℕ → Option ℕ
only_unit tree None = None
only_unit tree (Some node) = if nat_le node (unit_count tree) then Some node else None

-- the unit of a name. A gate's name is no unit's.
abbrev pub unit_of : FaultTree → List ℕ → Option ℕ
unit_of tree name = only_unit tree (unit_from 1 tree.names name)

-- units behind one more unit, where there is one
abbrev pub with_unit : Option ℕ → List ℕ → List ℕ
with_unit None units = units
with_unit (Some unit) units = unit ∷ units

-- the units that names name, in the order of the names
abbrev pub units_of : FaultTree → List (List ℕ) → List ℕ
units_of tree [] = []
units_of tree (name ∷ names) = with_unit (unit_of tree name) (units_of tree names)

-- whether some name names no unit
abbrev pub some_unknown : FaultTree → List (List ℕ) → Bool
some_unknown tree names = list_any (λ name. is_none (unit_of tree name)) names

-- what a crew asks, by the units of the tree
abbrev pub request_of : FaultTree → Ask → Request
request_of tree (asks.Take names) = Take record { units = units_of tree names; unknown = some_unknown tree names }
request_of tree (asks.Return name) = Return (unit_of tree name)
request_of tree (asks.Margin number) = Margin number

-- the docket of a crew, by the units of the tree
abbrev pub requests_of : FaultTree → Crew → List Request
requests_of tree crew = map (request_of tree) crew.docket

-- the number of the first crew with a name, counted from a number on
abbrev pub crew_from : ℕ → List Crew → List ℕ → Option CrewNo
crew_from number [] name = None
crew_from number (crew ∷ crews) name = if same_name crew.name name then Some (record { 0 = number })
    else crew_from (suc number) crews name

-- the crew that is named `supervisor`
abbrev pub supervisor_of : List Crew → Option CrewNo
supervisor_of crews = crew_from 0 crews (codes "supervisor")
