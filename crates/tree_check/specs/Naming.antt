-- What the naming of a text gives.
use Rattle.std.specs.Prelude.{◌≡◌, ℕ, Bool, true, not, List, [], ◌∷◌, ◌++◌, Option, Some, None, if◌then◌else◌}
use Rattle.std.specs.Borrow.{Bor}
use Rattle.fault_words.specs.Names.{has_name}
use Rattle.galileo_tree.specs.declared.raw.Statement.{Statement}
use Rattle.tree_check.specs.Said.{basic_names, gate_names}
use Rattle.tree_check.specs.declared.naming.Named.{Named}
use Rattle.tree_check.specs.declared.naming.Named.TheVariants.{BasicEvents, Gates}

-- the names of the basic events or of the gates
abbrev pub names_of : Named → List Statement → List (List ℕ)
names_of BasicEvents statements = basic_names statements
names_of Gates statements = gate_names statements

-- the name that a reference leads to, if there is one
abbrev pub name_list : Option (Bor (List ℕ)) → List (List ℕ)
name_list None = []
name_list (Some name) = name.now ∷ []

-- a name was added, where there is one, or was there
abbrev pub Adds : Option (Bor (List ℕ)) → Bool → List (List ℕ) → List (List ℕ) → Type 0
Adds None fresh old new = (fresh ≡ true) × (new ≡ old)
Adds (Some name) fresh old new =
    (fresh ≡ not (has_name old name.now)) × (new ≡ (if fresh then old ++ name.now ∷ [] else old))
