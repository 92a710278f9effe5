-- The made deck of a number, line by line: a large deck by a rule, to try the program with. It has groups of three
-- units under a gate each, every fifth group with a trigger, and one crew that asks for all of them.
use Rattle.std.specs.Prelude.{ℕ, ◌+◌, ◌-◌, ◌*◌, ◌/◌, ◌%◌, List, [], ◌∷◌, ◌++◌, map, codes, slice_index_or}
use Rattle.std.specs.List.{flat_map, range_with_len}
use Rattle.fault_words.specs.declared.kind.GateKind.{GateKind}
use Rattle.fault_words.specs.declared.kind.GateKind.TheVariants.{And, Or, Votes, Pand, Seq, Fdep, Csp, Wsp, Hsp}
use Rattle.deck_reading.specs.Written.{Bare, WrittenStatement, Top, Gate, Basic, written}
use Rattle.tree_maker.specs.Names.{top_name, gate_name, fdep_name, trigger_name, unit_name, units_in}

-- ---- how many

-- the groups: 200 less the number's last two digits
abbrev pub group_count : ℕ → ℕ
group_count number = 200 - number % 100

-- one of five groups, the first among them, has a trigger
abbrev pub fdep_count : ℕ → ℕ
fdep_count number = (group_count number + 4) / 5

-- one of two groups, the first among them, has a unit that is returned
abbrev pub return_count : ℕ → ℕ
return_count number = (group_count number + 1) / 2

-- the groups by their numbers from 0
abbrev pub groups : ℕ → List ℕ
groups number = range_with_len 0 (group_count number)

-- ---- the tree

-- the kinds of the groups' gates, in turn
abbrev pub kinds : List GateKind
kinds = And ∷ Pand ∷ Votes 2 3 ∷ Seq ∷ Csp ∷ Wsp ∷ Hsp ∷ []

-- the kind of a group's gate: the seven kinds go round, by the sum of the group and the deck's number
abbrev pub kind_in : ℕ → ℕ → GateKind
kind_in number group = slice_index_or kinds ((group + number) % 7) And

-- `t or g0 g1 ..;`
abbrev pub top_gate : ℕ → WrittenStatement
top_gate number = Gate (Bare top_name) Or (map (λ group. Bare (gate_name group)) (groups number))

-- `gI KIND uIa uIb uIc;`
abbrev pub group_gate : ℕ → ℕ → WrittenStatement
group_gate number group = Gate (Bare (gate_name group)) (kind_in number group) (map Bare (units_in group))

-- `fI fdep xJ uIb;` with 5q for I, and q's last digit for J
abbrev pub fdep_gate : ℕ → WrittenStatement
fdep_gate q =
    Gate (Bare (fdep_name (5 * q))) Fdep (Bare (trigger_name (q % 10)) ∷ Bare (unit_name (5 * q) (codes "b")) ∷ [])

-- `uIa;`, `xJ;`
abbrev pub unit_line : List ℕ → WrittenStatement
unit_line name = Basic (Bare name) []

-- the ten triggers from 0
abbrev pub triggers : List ℕ
triggers = range_with_len 0 10

-- the top event, the groups' gates, the triggers' gates, the groups' units and the triggers
abbrev pub made_statements : ℕ → List WrittenStatement
made_statements number =
    Top (Bare top_name) ∷ top_gate number
    ∷ (map (group_gate number) (groups number)
    ++ (map fdep_gate (range_with_len 0 (fdep_count number))
    ++ (flat_map (λ group. map unit_line (units_in group)) (groups number)
    ++ map (λ trigger. unit_line (trigger_name trigger)) triggers)))

-- ---- the crew part

-- `take uIa`
abbrev pub take_line : List ℕ → List ℕ
take_line name = codes "take " ++ (name ++ codes "\n")

-- `return uIa` of the group 2k
abbrev pub return_line : ℕ → List ℕ
return_line k = codes "return " ++ (unit_name (2 * k) (codes "a") ++ codes "\n")

-- the crew takes the units of all groups, and returns the first unit of each even one
abbrev pub crew_lines : ℕ → List ℕ
crew_lines number =
    codes "crew maker\n"
    ++ (flat_map (λ group. flat_map take_line (units_in group)) (groups number)
    ++ flat_map return_line (range_with_len 0 (return_count number)))

-- ---- the deck

-- the bytes of the made deck of a number: its statements, the line `@crews`, and the lines of its one crew
abbrev pub made_deck : ℕ → List ℕ
made_deck number = written (made_statements number) ++ (codes "@crews\n" ++ crew_lines number)
