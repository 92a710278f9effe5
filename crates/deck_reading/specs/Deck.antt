-- What the bytes of a deck stand for: the tree of its tree part, and the crews of its crew part.
use Rattle.std.specs.Prelude.{◌≡◌, ℕ, List, take, drop, Option, Some, None, Result, Ok}
use Rattle.fault_definitions.specs.{Tree.FaultTree, WellFormed.IsTree}
use Rattle.galileo_tree.specs.{Parsed.parsed_text, ReadTree.ReadTree}
use Rattle.tree_check.specs.Checked.{Stands}
use Rattle.crew_script.specs.{Crews.crews_of, Deck.split_of, declared.deck.CrewsAt.CrewsAt, declared.dockets.Crew.Crew}
use Rattle.crew_script.specs.{declared.fault.CrewFault.CrewFault}

-- ---- the tree part

-- what stands before the first line `@crews`, or all
abbrev pub tree_part : List ℕ → List ℕ
tree_part bytes = take (split_of bytes).tree bytes

-- the deck stands for this tree: the tree part is the spelling of statements in which no class of faults occurs, and
-- the tree is theirs
pub record StandsFor (bytes : List ℕ) (tree : FaultTree) : Type 0 where
  pub read : ReadTree
  pub parsed : parsed_text (tree_part bytes) ≡ Ok read
  pub stands : Stands read tree
  pub kept : IsTree tree

-- ---- the crew part

-- what the crew part says that begins there, and nothing where there is none
abbrev pub crews_behind : List ℕ → Option CrewsAt → Option (Result (List Crew) CrewFault)
crews_behind bytes None = None
crews_behind bytes (Some at) = Some (crews_of at.line (drop at.start bytes))

-- the crews with their requests, or the first line's fault
abbrev pub crew_part : List ℕ → Option (Result (List Crew) CrewFault)
crew_part bytes = crews_behind bytes (split_of bytes).crews
