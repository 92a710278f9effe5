-- Where no number is marked, no definition is.
use Rattle.std.proofs.Common.{◌≡◌, ℕ, zero, suc, Bool, true, false, cond, List, [], ◌∷◌, map, get_or, refl, ap, ◌∙◌}
use Rattle.std.specs.{Prelude.filter, List.list_any}
use mathlib.Core.Bool.{beq}
use Rattle.fault_words.specs.Names.{number_in}
use Rattle.galileo_tree.specs.declared.raw.Placed.{Placed}
use Rattle.tree_check.specs.Marked.{is_marked, marked_places}

-- no mark is true
abbrev pub AreUnset : List Bool → Type 0
AreUnset marks = list_any (λ mark. beq mark true) marks ≡ false

unmarked : (marks : List Bool) (number : ℕ) → AreUnset marks → get_or marks number false ≡ false
unmarked [] number none = refl
unmarked (true ∷ marks) number none = absurd cc
unmarked (false ∷ marks) zero none = refl
unmarked (false ∷ marks) (suc number) none = unmarked marks number none

pub none_marked : (marks : List Bool) (names : List (List ℕ)) (definitions : List Placed)
    → AreUnset marks → marked_places marks names definitions ≡ []
none_marked marks names [] none = refl
none_marked marks names (definition ∷ definitions) none =
    let others = filter (is_marked marks names) definitions in
    ap (λ b. map (λ (d : Placed). d.place) (cond b (definition ∷ others) others))
    (unmarked marks (number_in names definition.name) none)
    ∙ none_marked marks names definitions none
