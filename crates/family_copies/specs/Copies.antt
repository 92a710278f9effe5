-- References of a store and of a memory that stand for the same families.
use Rattle.std.specs.Prelude.{◌≡◌, ◌≢◌, ℕ, List, get_or}
use Rattle.zdd_families.specs.Map.{Knows, family}
use Rattle.family_memory.specs.Memory.{Held, Has, family_in}

-- the store's reference is known, the memory has the other, and both stand for one family
pub record IsCopy (held : Held) (known : ℕ → ℕ) (shared own : ℕ) : Type 0 where
  pub knows : Knows known shared
  pub has : Has held own
  pub same : family_in held own ≡ family known shared

-- each reference of the memory that has one of the store at its place is the copy of that
abbrev pub AreCopies : Held → (ℕ → ℕ) → List ℕ → Type 0
AreCopies held known copies = (own : ℕ) → get_or copies own 0 ≢ 0 → IsCopy held known (get_or copies own 0) own
