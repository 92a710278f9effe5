-- What is moved out of statements, as far as it is.
use Rattle.std.proofs.Common.{◌≡◌, List, ◌++◌}
use Rattle.galileo_tree.specs.declared.raw.Statement.{Statement}
use Rattle.tree_check.specs.{declared.assembly.Taken.Taken, Said.basic_names, Said.gate_names}
use Rattle.tree_check.specs.{Assembling.attribute_lists}

-- what is taken so far, and what the rest holds, are all
pub record IsTaking (all rest : List Statement) (taken : Taken) : Type 0 where
  pub units : taken.units.items ++ basic_names rest ≡ basic_names all
  pub gates : taken.gates.items ++ gate_names rest ≡ gate_names all
  pub attributes : taken.attributes.items ++ attribute_lists rest ≡ attribute_lists all
