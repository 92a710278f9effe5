-- The statements by numbers, as far as they are numbered.
use Rattle.std.proofs.Common.{◌≡◌, ℕ, ◌+◌, ◌≤◌, List, ◌++◌, length, map, drop}
use Rattle.galileo_tree.specs.declared.raw.Statement.{Statement}
use Rattle.tree_check.specs.{declared.numbered.NumberedText.NumberedText, Numbered.numbered, Numbered.numbered_gate}
use Rattle.tree_check.specs.{Classes.undefined}
use Rattle.tree_check.specs.Said.{basics, gates, tops, uses}

pub record SoFar (names : List (List ℕ)) (statements : List Statement) (i : ℕ) (deck : NumberedText) : Type 0 where
  pub units : deck.units + length (basics (drop i statements)) ≡ length (basics statements)
  pub few : deck.units ≤ i
  pub gates_all : deck.gates.items ++ map (numbered_gate names) (gates (drop i statements))
      ≡ map (numbered_gate names) (gates statements)
  pub tops_all : deck.tops ++ map (λ top. numbered names top.name) (tops (drop i statements))
      ≡ map (λ top. numbered names top.name) (tops statements)
  pub known : undefined names (uses (drop i statements)) ≡ undefined names (uses statements)
