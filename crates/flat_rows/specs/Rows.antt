-- A list of rows, kept end to end in one list of items beside the places where the rows end.
use Rattle.std.proofs.Common.{zero}
use Rattle.std.specs.Prelude.{◌≡◌, ℕ, suc, ◌+◌, ◌-◌, ◌≤◌, List, [], ◌∷◌, map, take, drop, get_or}

-- the items from one place up to another
abbrev pub between : {X : Type 0} → ℕ → ℕ → List X → List X
between from to items = take (to - from) (drop from items)

-- the rows of the items, the first of which begins at a place
abbrev pub rows_from : {X : Type 0} → ℕ → List ℕ → List X → List (List X)
rows_from from [] items = []
rows_from from (e ∷ es) items = between from e items ∷ rows_from e es items

-- the ends rise from the beginning up to the number of items
abbrev pub Rise : ℕ → List ℕ → ℕ → Type 0
Rise from [] total = from ≡ total
Rise from (e ∷ es) total = (from ≤ e) × Rise e es total

-- the place where the row of a number begins
abbrev pub start_of : ℕ → List ℕ → ℕ → ℕ
start_of from ends zero = from
start_of from ends (suc i) = get_or ends i 0

-- ends that come so many items later
abbrev pub raised : ℕ → List ℕ → List ℕ
raised before ends = map (λ end. before + end) ends
