-- What contracts see of a seat, and what each seat keeps.
use Rattle.std.specs.Prelude.{◌≡◌, ℕ, ◌+◌, ◌<◌, ◌≤◌, ◌≢◌, List, [], Contains}
use Rattle.atomic_table.specs.Table.{Me}
pub use Rattle.atomic_table.specs.Seated.{TableId}
use Rattle.zdd_families.specs.Map.{IsClosed, IsUnique, IsNode}
use Rattle.zdd_shared_table.specs.{Known.find, declared.view.View.View, declared.view.Probe.Probe}

-- What is known is closed and says one word of each reference, different references have different words,
-- and what was filled and missed is of it.
pub record IsSound (size : ℕ) (pairs : List (ℕ × ℕ)) (asked gained : List ℕ) : Type 0 where
  pub closed : IsClosed (find pairs)
  pub unique : IsUnique (find pairs)
  pub agree : (reference word : ℕ) → Contains pairs (reference, word) → find pairs reference ≡ word
  pub within : (reference : ℕ) → find pairs reference ≢ 0 → reference < size + 2
  pub missed : (word : ℕ) → Contains asked word → IsNode (find pairs) word
  pub fills : (reference : ℕ) → Contains gained reference → find pairs reference ≢ 0

-- of a view
abbrev pub IsSoundView : View → Type 0
IsSoundView v = IsSound v.size v.known v.missed v.fills

-- A seat as contracts see it.
pub record Seated : Type 0 where
  -- the store that it belongs to, of so many slots as this says by `words`
  pub store : TableId
  -- the references that it knows beside the terminals, each with its word
  pub known : List (ℕ × ℕ)
  -- how many of its searches found every slot filled with another word, and the words that they asked for
  pub fulls : ℕ
  pub missed : List ℕ
  -- the references whose slots it filled
  pub fills : List ℕ
  pub share : ℕ
  -- the word that its last search asked for and the slots that it passed, where it found no end
  pub probe : Probe

-- what the table's view of a seat is to contracts
abbrev pub seated : TableId → View → Seated
seated id v =
    record {
      store = id;
      known = v.known;
      fulls = v.fulls;
      missed = v.missed;
      fills = v.fills;
      share = v.share;
      probe =
          v.probe;
    }

-- the map of what a seat knows
abbrev pub map_of : Seated → ℕ → ℕ
map_of seat = find seat.known

-- what every seat keeps
abbrev pub IsSoundSeat : Seated → Type 0
IsSoundSeat seat = IsSound seat.store.words seat.known seat.missed seat.fills

-- what the fields of a seat keep
pub record IsSeat (id : TableId) (me : Me (Unit {0}) View) : Type 0 where
  pub holds_none : me.1 ≡ []
  pub sized : me.0.size ≡ id.words
  pub shares : 1 ≤ me.0.share
  pub sound : IsSoundView me.0
