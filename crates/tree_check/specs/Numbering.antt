-- What numbering a text gives.
use Rattle.std.specs.Prelude.{◌≡◌, ℕ, ◌+◌, List, ◌++◌, length, map}
use Rattle.galileo_tree.specs.declared.raw.Statement.{Statement}
use Rattle.tree_check.specs.{declared.numbered.NumberedText.NumberedText, Numbered.numbered, Numbered.numbered_gate}
use Rattle.tree_check.specs.Said.{basics, gates, tops, basic_in, gate_in, top_in}

-- the statements by the numbers of these names
pub record IsDeckOf (names : List (List ℕ)) (statements : List Statement) (deck : NumberedText) : Type 0 where
  pub units : deck.units ≡ length (basics statements)
  pub gates_all : deck.gates.items ≡ map (numbered_gate names) (gates statements)
  pub tops_all : deck.tops ≡ map (λ top. numbered names top.name) (tops statements)

-- what one statement says is added at the end
pub record AddsStatement (names : List (List ℕ)) (statement : Statement) (old new : NumberedText) : Type 0 where
  pub units : new.units ≡ old.units + length (basic_in statement)
  pub gates : new.gates.items ≡ old.gates.items ++ map (numbered_gate names) (gate_in statement)
  pub tops : new.tops ≡ old.tops ++ map (λ top. numbered names top.name) (top_in statement)
