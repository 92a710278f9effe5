-- Lists in which no member stands twice: such lists with the same members are equally long.
use Rattle.std.specs.Prelude.{◌≢◌, List, [], ◌∷◌}
use Rattle.std.specs.List.{AllByRecursion}

-- no member stands twice
abbrev pub EachOnce : {K : Type 0} → List K → Type 0
EachOnce [] = Unit {0}
EachOnce (x ∷ xs) = AllByRecursion (λ y. x ≢ y) xs × EachOnce xs
