-- No number that naming gives is above the number of names.
use Rattle.std.proofs.Common.{ℕ, ◌≤◌, List, length, map, get_or, inl, inr, arith}
use Rattle.std.proofs.{lemmas.Bool.cases_Bool, lemmas.List.Elements.All-map}
use Rattle.std.specs.Prelude.{All}
use Rattle.galileo_tree.specs.declared.raw.RawGate.{RawGate}
use Rattle.fault_words.specs.Names.{has_name, number_in}
use Rattle.tree_check.specs.{Numbered.numbered, Numbered.numbered_gate, SpareTable.AreWithin}
use Rattle.tree_check.specs.{declared.numbered.Numbered.Numbered, declared.numbered.NumberedGate.NumberedGate}
use Rattle.tree_check.proofs.Numbers.{number_none, number_within}

number_low : (names : List (List ℕ)) (name : List ℕ) → number_in names name ≤ length names
number_low names name = elim (cases_Bool (has_name names name)) [
  | inl there ↦ (number_within names name there).1
  | inr none ↦ let is = number_none names name none in omega arith
]

pub gates_low : (names : List (List ℕ)) (gates : List RawGate)
    → AreWithin (length names) (map (numbered_gate names) gates)
gates_low names gates =
    All-map (λ (gate : NumberedGate). All (λ input. input.number ≤ length names) gate.inputs) (numbered_gate names)
    gates
    (λ k d short. All-map (λ (input : Numbered). input.number ≤ length names) (numbered names) (get_or gates k d).inputs
    (λ j e short'. number_low names (get_or (get_or gates k d).inputs j e).name))
