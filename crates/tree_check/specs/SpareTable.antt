-- A table that knows of each event how it was used before, by which a clash shows in one look.
use Rattle.std.specs.Prelude.{ℕ, ◌≤◌, Bool, true, false, not, List, [], ◌∷◌, ◌++◌, slice_index_or, slice_set}
use Rattle.std.specs.Prelude.{if◌then◌else◌, All}
use Rattle.fault_words.specs.declared.place.Place.{Place}
use Rattle.tree_check.specs.{Classes.SpareUse, declared.numbered.NumberedGate.NumberedGate}
use Rattle.tree_check.specs.{declared.spares.EarlierUses.EarlierUses}
use Rattle.tree_check.specs.declared.spares.EarlierUses.TheVariants.{Unused, FirstOnly, Otherwise}

-- every input has its place in a table that goes up to this number
abbrev pub AreWithin : ℕ → List NumberedGate → Type 0
AreWithin nodes gates = All (λ gate. All (λ input. input.number ≤ nodes) gate.inputs) gates

-- what is known of an event after a use more, by whether it is a first input
abbrev pub noted : EarlierUses → Bool → EarlierUses
noted Unused true = FirstOnly
noted FirstOnly true = FirstOnly
noted Otherwise true = Otherwise
noted Unused false = Otherwise
noted FirstOnly false = Otherwise
noted Otherwise false = Otherwise

-- whether a use clashes with an earlier one
abbrev pub clashes_with : EarlierUses → Bool → Bool
clashes_with Unused is_first = false
clashes_with FirstOnly is_first = not is_first
clashes_with Otherwise is_first = true

-- how an event was used before, by its number in the table
abbrev pub earlier_uses : List EarlierUses → ℕ → EarlierUses
earlier_uses table number = slice_index_or table number Unused

-- the table after one use
abbrev pub table_with : List EarlierUses → SpareUse → List EarlierUses
table_with table later =
    slice_set table later.input.number (noted (earlier_uses table later.input.number) later.is_first)

-- the table after some uses
abbrev pub table_after : List EarlierUses → List SpareUse → List EarlierUses
table_after table [] = table
table_after table (later ∷ uses) = table_after (table_with table later) uses

-- the places of those uses that clash by the table
abbrev pub clashes_by : List EarlierUses → List SpareUse → List Place
clashes_by table [] = []
clashes_by table (later ∷ uses) =
    (if clashes_with (earlier_uses table later.input.number) later.is_first then later.input.place ∷ [] else [])
    ++ clashes_by (table_with table later) uses
