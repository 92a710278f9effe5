-- The first sets of a list, each waiting at one of its units.
use Rattle.std.specs.Prelude.{◌≡◌, ℕ, ◌<◌, ◌≤◌, true, List, [], length, All, Contains, slice_index_or}
use Rattle.unit_sets.specs.UnitList.{among}
use Rattle.cutset_lists.specs.{declared.waiting.Waiter.Waiter, declared.waiting.Waiting.Waiting}

-- the set at a place of a list; the empty set behind its end
abbrev pub set_at : List (List ℕ) → ℕ → List ℕ
set_at sets place = slice_index_or sets place []

-- the waiters that stand at a unit; none where there is no place for the unit
abbrev pub waiters_at : List (List Waiter) → ℕ → List Waiter
waiters_at at unit = slice_index_or at unit []

-- a waiter stands for one of the first sets, and its sign is one of that set's units
pub record IsWaiter (sets : List (List ℕ)) (count : ℕ) (waiter : Waiter) : Type 0 where
  pub inside : waiter.place < count
  pub sign : among (set_at sets waiter.place) waiter.sign ≡ true

-- a waiter of a set stands at one of its units
pub record Waits (sets : List (List ℕ)) (at : List (List Waiter)) (place : ℕ) : Type 0 where
  pub unit : ℕ
  pub of_set : among (set_at sets place) unit ≡ true
  pub waiter : Waiter
  pub there : Contains (waiters_at at unit) waiter
  pub for_set : waiter.place ≡ place

-- all of the first sets wait, and none else
pub record AreWaiting (sets : List (List ℕ)) (count : ℕ) (at : List (List Waiter)) : Type 0 where
  pub inside : count ≤ length sets
  pub known : (unit : ℕ) → All (IsWaiter sets count) (waiters_at at unit)
  pub placed : (place : ℕ) → place < count → Waits sets at place

-- all of the first sets wait, and no set is looked at
pub record AreReady (sets : List (List ℕ)) (waiting : Waiting) : Type 0 where
  pub wait : AreWaiting sets waiting.count waiting.at.items
  pub none_marked : waiting.marked ≡ []

-- each set has some unit
abbrev pub AreFilled : List (List ℕ) → Type 0
AreFilled sets = (place : ℕ) → place < length sets → 1 ≤ length (set_at sets place)
