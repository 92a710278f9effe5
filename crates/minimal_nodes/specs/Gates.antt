-- Which sets of units fail a gate, by the families of its inputs.
use Rattle.std.specs.Prelude.{ℕ, Bool, false, nat_le, List, [], ◌∷◌}
use Rattle.std.specs.List.{list_any, list_all}
use Rattle.fault_words.specs.declared.kind.GateKind.{GateKind}
use Rattle.fault_words.specs.declared.kind.GateKind.TheVariants.{And, Or, Votes, Pand, Por, Seq, Fdep, Csp, Wsp, Hsp}
use Rattle.zdd_families.specs.{Within.count_within, Least.IsLeastFor}
use Rattle.unit_sets.specs.UnitList.{some_within}

-- whether the first family has a set within
abbrev pub first_within : List (List (List ℕ)) → (ℕ → Bool) → Bool
first_within [] within = false
first_within (family ∷ families) within = some_within family within

-- a gate, by its inputs' families. An `fdep` counts as a gate that never fails.
abbrev pub gate_within : GateKind → List (List (List ℕ)) → (ℕ → Bool) → Bool
gate_within And families within = list_all (λ family. some_within family within) families
gate_within Or families within = list_any (λ family. some_within family within) families
gate_within (Votes least of) families within = nat_le least (count_within families within)
gate_within Pand families within = list_all (λ family. some_within family within) families
gate_within Por families within = first_within families within
gate_within Seq families within = list_all (λ family. some_within family within) families
gate_within Fdep families within = false
gate_within Csp families within = list_all (λ family. some_within family within) families
gate_within Wsp families within = list_all (λ family. some_within family within) families
gate_within Hsp families within = list_all (λ family. some_within family within) families

-- the minimal family of a gate of a kind
abbrev pub IsLeastOfGate : GateKind → List (List (List ℕ)) → List (List ℕ) → Type 0
IsLeastOfGate kind families least = IsLeastFor (gate_within kind families) least
