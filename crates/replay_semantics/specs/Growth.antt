-- How a step may change as one unit more fails, and what follows for the least and the greatest of several steps.
use Rattle.std.specs.Prelude.{◌≡◌, ℕ, ◌≤◌, Some, None}
use Rattle.fault_definitions.specs.Step.{Step}

-- A step stays as it is, or a node that never failed now fails at the last place. What stays is no later than that.
abbrev pub Grows : ℕ → Step → Step → Type 0
Grows last None None = Unit {0}
Grows last None (Some now) = now ≡ last
Grows last (Some before) None = ⊥
Grows last (Some before) (Some now) = (now ≡ before) × (before ≤ last)

-- so the steps of all nodes change
pub record AllGrow (last : ℕ) (before now : ℕ → Step) : Type 0 where
  pub each : (node : ℕ) → Grows last (before node) (now node)
