-- A search for a word in the table: from its home slot by slot, round the end.
use Rattle.std.specs.Prelude.{◌≡◌, ℕ, ◌+◌, ◌<◌, ◌≤◌, ◌^◌, ◌⊎◌}
use Rattle.atomic_table.specs.declared.shared.Seat.{Seat}
use Rattle.zdd_words.specs.Word.{home_of}
use Rattle.zdd_families.specs.Map.{IsNode}
use Rattle.zdd_shared_table.specs.{Known.find, Views.learned, Views.filled, Rule.round, declared.view.View.View}

-- a seat that searches for a word has passed some slots and stands at the next one
pub record IsSearch (bits : ℕ) (v : View) (word before slot : ℕ) : Type 0 where
  pub few : bits ≤ 64
  pub sized : v.size ≡ 2 ^ bits
  pub node : IsNode (find v.known) word
  pub inside : before < 2 ^ bits
  pub here : slot ≡ round (2 ^ bits) (home_of word bits + before)
  pub goes_on : (before ≡ 0) ⊎ (v.probe ≡ record { word = word; passed = before })

-- the search ended at a slot that holds the word, which the seat may have filled
abbrev pub HasEnded : ℕ → ℕ → View → View → Type 0
HasEnded word slot before after = (after ≡ learned word slot before) ⊎ (after ≡ filled word slot before)

-- a step leaves a seat at its table, with its number and the slots that it holds
abbrev pub StaysSeat : Seat (Unit {0}) View → Seat (Unit {0}) View → Type 0
StaysSeat before after = (after.table_id ≡ before.table_id) × (after.id ≡ before.id) × (after.me.1 ≡ before.me.1)
