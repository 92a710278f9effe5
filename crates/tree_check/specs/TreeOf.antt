-- The tree that statements stand for, once no fault is found, and what leads to what in it.
use Rattle.std.specs.Prelude.{◌≡◌, ◌↔◌, ℕ, ◌<◌, ◌≤◌, Bool, false, IsTrue, List, [], ◌∷◌, length, drop, map, slice_index}
use Rattle.std.specs.Prelude.{slice_index_or, slice_get, Some}
use Rattle.unit_sets.specs.UnitList.{among}
use Rattle.fault_words.specs.declared.place.Place.{Place}
use Rattle.fault_definitions.specs.{Tree.FaultTree, Trigger.below, Rank.IsRanked}
use Rattle.galileo_tree.specs.declared.raw.Statement.{Statement}
use Rattle.tree_check.specs.Said.{basics, definitions, names}
use Rattle.tree_check.specs.Numbered.{kinds, kept_inputs, numbered_gates, numbered_definitions, numbered_tops}
use Rattle.tree_check.specs.Numbered.{unit_total}
use Rattle.tree_check.specs.{declared.numbered.Numbered.Numbered, declared.numbered.NumberedGate.NumberedGate}

-- the numbers of names, without their places
abbrev pub numbers : List Numbered → List ℕ
numbers inputs = map (λ input. input.number) inputs

-- the inputs of each gate that are left after dropping, as numbers
abbrev pub input_lists : ℕ → List NumberedGate → List (List ℕ)
input_lists units gates = map (λ gate. numbers (kept_inputs units (kinds gates) gate)) gates

-- the number of the first of some
abbrev pub first_number : List Numbered → ℕ
first_number [] = 0
first_number (top ∷ tops) = top.number

-- The tree of the statements, with these ranks. Its units are the basic events and its gates the gates of the text,
-- each in the order of their definitions.
abbrev pub tree_of : List Statement → List ℕ → FaultTree
tree_of statements ranks = record {
  names = names statements;
  kinds = kinds (numbered_gates statements);
  inputs = input_lists (unit_total statements) (numbered_gates statements);
  attributes = map (λ basic. map (λ raw. raw.attribute) basic.attributes) (basics statements);
  top = first_number (numbered_tops statements);
  ranks = ranks;
}

-- A node leads to another over one or more edges: from a gate to its inputs, dropped ones left out, and from a unit to
-- its triggers.
pub data LeadsTo (tree : FaultTree) : ℕ → ℕ → Type 0 where
  edge : {x y : ℕ} → IsTrue (among (below tree x) y) → LeadsTo tree x y
  way : {x y z : ℕ} → IsTrue (among (below tree x) y) → LeadsTo tree y z → LeadsTo tree x z

-- the number of the definition at an index
abbrev pub number_at : List Numbered → ℕ → ℕ
number_at definitions i = slice_index (numbers definitions) i

-- a definition leads to itself
abbrev pub IsCyclic : List Statement → ℕ → Type 0
IsCyclic statements i =
    LeadsTo (tree_of statements []) (number_at (numbered_definitions statements) i)
    (number_at (numbered_definitions statements) i)

-- the first definition of the text that leads to itself, at its name
pub record FirstOnCycle (statements : List Statement) (place : Place) : Type 0 where
  pub index : ℕ
  pub at : slice_get (map (λ definition. definition.place) (definitions statements)) index ≡ Some place
  pub cyclic : IsCyclic statements index
  pub no_earlier : (i : ℕ) → i < index → ¬ IsCyclic statements i

-- no definition leads to itself
abbrev pub HasNoCycle : List Statement → Type 0
HasNoCycle statements = (i : ℕ) → i < length (definitions statements) → ¬ IsCyclic statements i

-- the ranks of the nodes of the statements' tree
pub record AreRanks (statements : List Statement) (ranks : List ℕ) : Type 0 where
  pub all : length ranks ≡ length (names statements)
  pub ranked : IsRanked (tree_of statements ranks)

-- the marks tell which nodes lead to themselves; where none does, the ranks behind the first are those of the nodes
pub record IsSurveyed (statements : List Statement) (marks : List Bool) (ranks : List ℕ) : Type 0 where
  pub cyclic : (x : ℕ) → x ≤ length (names statements)
      → IsTrue (slice_index_or marks x false) ↔ LeadsTo (tree_of statements []) x x
  pub ranked : ((x : ℕ) → 1 ≤ x → x ≤ length (names statements) → slice_index_or marks x false ≡ false)
      → AreRanks statements (drop 1 ranks)

-- the nodes of the statements' tree have ranks
pub record HasRanks (statements : List Statement) : Type 0 where
  pub ranks : List ℕ
  pub are : AreRanks statements ranks
