-- What is left of two families without each other.
use Rattle.std.specs.Prelude.{ℕ}
use Rattle.zdd_families.specs.Without.{IsWithout}
use Rattle.family_memory.specs.Memory.{Held, Has, family_in}
use Rattle.minimal_operations.specs.Operands.{HasBoth}

-- of either of two families the sets that include none of the other
pub record AreRests (held : Held) (a b rest other : ℕ) : Type 0 where
  pub has : HasBoth held a b
  pub has_rest : Has held rest
  pub has_other : Has held other
  pub first : IsWithout (family_in held a) (family_in held b) (family_in held rest)
  pub second : IsWithout (family_in held b) (family_in held a) (family_in held other)
