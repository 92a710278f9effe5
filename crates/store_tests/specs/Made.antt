-- Diagrams that are made node by node.
use Rattle.std.specs.Prelude.{◌≡◌, ℕ}
use Rattle.zdd_families.specs.{Family.IsAbove, Map.Knows, Map.family}

-- a known reference whose units lie above a number
pub record IsMade (known : ℕ → ℕ) (below r : ℕ) : Type 0 where
  pub knows : Knows known r
  pub above : IsAbove below (family known r)

-- what was known is known as it was
abbrev pub Keeps : (ℕ → ℕ) → (ℕ → ℕ) → Type 0
Keeps old new = (r : ℕ) → Knows old r → Knows new r × (family new r ≡ family old r)
