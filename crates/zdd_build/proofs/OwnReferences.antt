-- What a worker has read into its own memory.
use Rattle.std.specs.Prelude.{ℕ, ◌<◌, List, slice_index}
use Rattle.fault_definitions.specs.{CutFamily.IsCutFamily, Tree.FaultTree}
use Rattle.family_memory.specs.Memory.{Held, Has, family_in}

-- of the first nodes of a list, the memory has references to their cut families, in their order
abbrev pub AreRead : Held → FaultTree → List ℕ → List ℕ → ℕ → Type 0
AreRead held tree nodes references count =
    (k : ℕ) → k < count → Has held (slice_index references k)
    × IsCutFamily tree (slice_index nodes k) (family_in held (slice_index references k))
