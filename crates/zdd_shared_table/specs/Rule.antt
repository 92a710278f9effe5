-- The rule of the store, over its words and all views.
use Rattle.std.specs.Prelude.{◌≡◌, ℕ, ◌+◌, ◌-◌, ◌<◌, ◌≢◌, ◌^◌, List, length, slice_index, if◌then◌else◌, Contains}
use Rattle.std.proofs.Common.{ltb}
use mathlib.Core.Option.{some}
use lib.ListN.{get_elem?}
use Rattle.atomic_table.specs.Table.{State}
use Rattle.zdd_words.specs.Word.{home_of}
use Rattle.zdd_shared_table.specs.{declared.view.View.View, Known.find, Known.placed}
use Rattle.zdd_families.specs.Map.{IsNode}

-- a place counted from a slot of a table of this size, which goes on at slot 0 behind the last slot
unfoldable pub round : ℕ → ℕ → ℕ
round size place = if ltb place size then place else place - size

-- What holds of the words, where home gives the slot at which the search for a word begins.
pub record HoldsNodes (home : ℕ → ℕ) (size : ℕ) (words : List ℕ) : Type 0 where
  pub sized : length words ≡ size
  -- a word that is not 0 is a node, whose lo and hi are terminals or filled slots of a greater level
  pub nodes : (slot : ℕ) → slice_index words slot ≢ 0 → IsNode (placed words) (slice_index words slot)
  -- all slots from a word's home up to the slot that holds it are filled
  pub reached : (word place passed : ℕ) → word ≢ 0 → place < size
      → slice_index words (round size (home word + place)) ≡ word → passed < place
      → slice_index words (round size (home word + passed)) ≢ 0
  -- no two filled slots hold equal words
  pub once : (slot other : ℕ) → slice_index words slot ≢ 0 → slice_index words slot ≡ slice_index words other
      → slot ≡ other

-- What holds of one view over the words.
pub record Fits (home : ℕ → ℕ) (size : ℕ) (words : List ℕ) (v : View) : Type 0 where
  -- each known reference's slot holds its word, whose lo and hi are terminals or known with a greater level
  pub known : (reference word : ℕ) → Contains v.known (reference, word)
      → (placed words reference ≡ word) × IsNode (find v.known) word
  -- each reference that the seat filled is known
  pub fills : (reference : ℕ) → Contains v.fills reference → find v.known reference ≢ 0
  -- lo and hi of each word that was missed are terminals or known with a greater level
  pub missed : (word : ℕ) → Contains v.missed word → IsNode (find v.known) word
  -- the slots that a search has passed are filled with other words
  pub passed : (place : ℕ) → place < v.probe.passed
      → (slice_index words (round size (home v.probe.word + place)) ≢ 0)
      × (slice_index words (round size (home v.probe.word + place)) ≢ v.probe.word)
  -- after a full search no slot is empty
  pub full : 0 < v.fulls → (slot : ℕ) → slot < size → slice_index words slot ≢ 0

-- some seat knows the reference of a slot
pub record IsKnownBySome (views : List View) (slot : ℕ) : Type 0 where
  pub seat : ℕ
  pub view : View
  pub at : get_elem? views seat ≡ some view
  pub knows : find view.known (slot + 2) ≢ 0

-- what each seat knew some seat knows, with the same word: a seat that is joined leaves what it knew to the other
abbrev pub ForgetsNothing : List View → List View → Type 0
ForgetsNothing before after =
    (seat reference : ℕ) (v : View) → get_elem? before seat ≡ some v → find v.known reference ≢ 0
    → (other : ℕ) × (w : View) × (get_elem? after other ≡ some w) × (find w.known reference ≡ find v.known reference)

-- the rule of a table of 2 ^ bits slots
pub record IsStore (bits : ℕ) (s : State (Unit {0}) View) : Type 0 where
  pub nodes : HoldsNodes (λ word. home_of word bits) (2 ^ bits) s.words
  pub views : (seat : ℕ) (v : View) → get_elem? s.views seat ≡ some v
      → Fits (λ word. home_of word bits) (2 ^ bits) s.words v
  -- each filled slot is known to some seat
  pub owned : (slot : ℕ) → slice_index s.words slot ≢ 0 → IsKnownBySome s.views slot
