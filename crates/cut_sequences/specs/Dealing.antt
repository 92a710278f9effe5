-- How the sets are dealt to the workers in turn, and gathered again.
use Rattle.std.specs.Prelude.{◌≡◌, ℕ, zero, suc, ◌-◌, ◌/◌, ◌%◌, ◌<◌, List, [], ◌∷◌, ◌++◌, length, Option, None}
use Rattle.std.specs.Prelude.{slice_index_or, replicate}

-- what one worker gets, who waits for some items first and then lets `others` items pass after each
abbrev pub dealt : {X : Type 0} → ℕ → ℕ → List X → List X
dealt waits others [] = []
dealt zero others (item ∷ items) = item ∷ dealt others others items
dealt (suc waits) others (item ∷ items) = dealt waits others items

-- the lists of orders of the sets that one worker gets, a list for each set
abbrev pub Share : Type 0
Share = List (Option (List (List ℕ)))

-- a share has the lists of some sets, but for some at the end that are not listed
abbrev pub HasAllListed : Share → Share → Type 0
HasAllListed lists share = (rest : ℕ) × (share ++ replicate rest None ≡ lists)

-- the shares of all workers
pub record AreShares (lists : Share) (shares : List Share) : Type 0 where
  pub some : 0 < length shares
  pub each : (worker : ℕ) → worker < length shares
      → HasAllListed (dealt worker (length shares - 1) lists) (slice_index_or shares worker [])

-- the list of a set, by its place among all sets
abbrev pub list_in : List Share → ℕ → Option (List (List ℕ))
list_in shares i = slice_index_or (slice_index_or shares (i % length shares) []) (i / length shares) None

-- the lists of so many sets, in the order of the sets
abbrev pub gathered : ℕ → List Share → Share
gathered zero shares = []
gathered (suc sets) shares = gathered sets shares ++ list_in shares sets ∷ []
