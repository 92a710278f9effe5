-- How the parts of a tree are taken out of statements.
use Rattle.std.specs.Prelude.{◌≡◌, List, [], ◌∷◌, ◌++◌, map}
use Rattle.fault_words.specs.declared.attribute.Attribute.{Attribute}
use Rattle.galileo_tree.specs.{declared.raw.RawAttribute.RawAttribute, declared.raw.Statement.Statement}
use Rattle.tree_check.specs.Said.{basics, basic_names, gate_names}
use Rattle.tree_check.specs.declared.assembly.Taken.{Taken}

-- the attributes of one basic event
abbrev pub attributes_in : List RawAttribute → List Attribute
attributes_in raws = map (λ raw. raw.attribute) raws

-- the attributes of each basic event of a text
abbrev pub attribute_lists : List Statement → List (List Attribute)
attribute_lists statements = map (λ basic. attributes_in basic.attributes) (basics statements)

-- what one statement holds is added at the end
pub record Takes (statement : Statement) (old new : Taken) : Type 0 where
  pub units : new.units.items ≡ old.units.items ++ basic_names (statement ∷ [])
  pub gates : new.gates.items ≡ old.gates.items ++ gate_names (statement ∷ [])
  pub attributes : new.attributes.items ≡ old.attributes.items ++ attribute_lists (statement ∷ [])

-- all that statements hold
pub record IsTakenOf (statements : List Statement) (taken : Taken) : Type 0 where
  pub units : taken.units.items ≡ basic_names statements
  pub gates : taken.gates.items ≡ gate_names statements
  pub attributes : taken.attributes.items ≡ attribute_lists statements
