-- Lists of sets of units that stand for a monotone reading: it is true where some set lies within.
use Rattle.std.specs.Prelude.{◌≡◌, ℕ, Bool, true, false, ◌&&◌, ◌||◌, ◌++◌, nat_lt, List, length, All, Contains}
use Rattle.std.specs.List.{list_any, list_all}
use Rattle.unit_sets.specs.CutOrder.{IsInCutOrder}
use Rattle.unit_sets.specs.UnitList.{among, IsRising, is_within, some_within}

-- two sets have the same units
abbrev pub AreAlike : List ℕ → List ℕ → Type 0
AreAlike set other = (unit : ℕ) → among set unit ≡ among other unit

-- a set of units that pass a test, in rising order
pub record IsSetOf (passes : ℕ → Bool) (set : List ℕ) : Type 0 where
  pub rising : IsRising set
  pub pass : list_all passes set ≡ true

-- each set of a list has only units that pass a test, in rising order
abbrev pub AreSetsOf : (ℕ → Bool) → List (List ℕ) → Type 0
AreSetsOf passes sets = All (IsSetOf passes) sets

-- one set has the units of two
pub record IsUnion (left right union : List ℕ) : Type 0 where
  pub within : (within : ℕ → Bool) → list_all within union ≡ (list_all within left && list_all within right)
  pub rising : IsRising left → IsRising right → IsRising union

-- a list is now also true where a set and a list are, and has sets of units as before
pub record AddsUnions (set : List ℕ) (list old new : List (List ℕ)) : Type 0 where
  pub some_within : (within : ℕ → Bool) → some_within new within
      ≡ (some_within old within || (list_all within set && some_within list within))
  pub sets : (passes : ℕ → Bool) → IsSetOf passes set → AreSetsOf passes list → AreSetsOf passes old
      → AreSetsOf passes new

-- a list is now also true where both of two are, and has sets of units where both of them do, as before
pub record AddsProduct (left right old new : List (List ℕ)) : Type 0 where
  pub some_within : (within : ℕ → Bool) → some_within new within
      ≡ (some_within old within || (some_within left within && some_within right within))
  pub sets : (passes : ℕ → Bool) → AreSetsOf passes left → AreSetsOf passes right → AreSetsOf passes old
      → AreSetsOf passes new

-- ---- minimal sets

-- a set of fewer units than a size lies within another
abbrev pub is_short_within : ℕ → List ℕ → List ℕ → Bool
is_short_within size set smaller = nat_lt (length smaller) size && is_within set smaller

-- a set that has fewer units than another lies within it
abbrev pub is_smaller_within : List ℕ → List ℕ → Bool
is_smaller_within set smaller = is_short_within (length set) set smaller

-- no set of the list has a smaller one within it
abbrev pub IsSharp : List (List ℕ) → Type 0
IsSharp sets = All (λ set. list_any (is_smaller_within set) sets ≡ false) sets

-- sets of a list in the order of cut lists, each once, that are true where the list is
pub record IsSortedFrom (sets sorted : List (List ℕ)) : Type 0 where
  pub some_within : (within : ℕ → Bool) → some_within sorted within ≡ some_within sets within
  pub members : All (Contains sets) sorted
  pub ordered : IsInCutOrder sorted

-- some sets of a list, in the order of cut lists, that are true where the list is, and none within another
pub record IsMinimalFrom (sets minimal : List (List ℕ)) : Type 0 where
  pub some_within : (within : ℕ → Bool) → some_within minimal within ≡ some_within sets within
  pub members : All (Contains sets) minimal
  pub ordered : IsInCutOrder minimal
  pub sharp : IsSharp minimal

-- a list that is true where another is, and has sets of units where that has
pub record IsReducedFrom (list reduced : List (List ℕ)) : Type 0 where
  pub some_within : (within : ℕ → Bool) → some_within reduced within ≡ some_within list within
  pub sets : (passes : ℕ → Bool) → AreSetsOf passes list → AreSetsOf passes reduced

-- ---- sets that include one of another list

-- a set has one of the list within it
abbrev pub Includes : List (List ℕ) → List ℕ → Type 0
Includes list set = list_any (is_within set) list ≡ true

-- a list in two parts, of which the first has sets alone that include one of another list
pub record IsSplit (list other including rest : List (List ℕ)) : Type 0 where
  pub some_within : (within : ℕ → Bool) → some_within list within
      ≡ (some_within including within || some_within rest within)
  pub included : All (Includes other) including
  pub sets : (passes : ℕ → Bool) → AreSetsOf passes list → AreSetsOf passes including × AreSetsOf passes rest

-- the first part is added to a list
pub record Splits (list other old new rest : List (List ℕ)) : Type 0 where
  pub including : List (List ℕ)
  pub is : new ≡ old ++ including
  pub split : IsSplit list other including rest
