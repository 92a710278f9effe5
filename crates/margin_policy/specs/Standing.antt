-- A standing as its callers see it, and which requests may be put to it.
use Rattle.std.specs.Prelude.{◌≡◌, ℕ, ◌+◌, ◌≤◌, List, length, All, Option, Some, None, replicate}
use Rattle.deck_limits.specs.declared.TheConstants.{GREATEST_MARGIN}
use Rattle.unit_sets.specs.declared.request.CrewNo.{CrewNo}
use Rattle.residual_ledger.specs.Ledger.{LedgerView, IsLedgerFor}
use Rattle.margin_policy.specs.{declared.request.Request.Request, declared.request.Reply.Reply, Held.Held}
use Rattle.margin_policy.specs.{Held.units_out}
use Rattle.margin_policy.specs.declared.request.Request.TheVariants.{Take, Return, Margin}
use Rattle.margin_policy.specs.Decide.{decide, held_after, margin_after}

-- how many units there are, the cut sets, the margin in force, the supervisor if there is one, and who holds what
pub record StandingView : Type 0 where
  pub units : ℕ
  pub cuts : List (List ℕ)
  pub margin : ℕ
  pub supervisor : Option CrewNo
  pub held : Held

-- nothing is out
abbrev pub nothing_held : ℕ → Held
nothing_held units = replicate (units + 1) None

-- every unit of a request is one of the units, and a margin is one that a command line may have
abbrev pub IsRequestFor : ℕ → Request → Type 0
IsRequestFor units (Take asked) = All (λ unit. unit ≤ units) asked.units
IsRequestFor units (Return None) = Unit {0}
IsRequestFor units (Return (Some unit)) = unit ≤ units
IsRequestFor units (Margin number) = number ≤ GREATEST_MARGIN

-- the reply of a standing to a request of a crew
abbrev pub reply_of : StandingView → CrewNo → Request → Reply
reply_of standing crew request = decide standing.cuts standing.held standing.margin standing.supervisor crew request

-- the standing after a request of a crew and its reply
abbrev pub after : StandingView → CrewNo → Request → Reply → StandingView
after standing crew request reply =
    record standing {
      margin = margin_after request reply standing.margin;
      held = held_after crew request reply standing.held;
    }

-- what a standing keeps: its ledger has out exactly the units that are held, all of them units
pub record KeepsStanding (ledger : LedgerView) (margin : ℕ) (held : Held) : Type 0 where
  pub whole : IsLedgerFor ledger.units ledger.cuts
  pub all : length held ≡ ledger.units + 1
  pub same : ledger.out ≡ units_out held
  pub within : margin ≤ GREATEST_MARGIN
