-- Standings in which every cut set keeps more members in service than the margin in force, and how requests lead to
-- them.
use Rattle.std.specs.Prelude.{◌≡◌, ◌+◌, Bool, true, false, []}
use Rattle.std.specs.Prelude.{length}
use Rattle.residual_ledger.specs.Tight.{tight}
use Rattle.margin_policy.specs.{declared.request.Request.Request, Held.units_out, Standing.StandingView}
use Rattle.margin_policy.specs.declared.request.Request.TheVariants.{Take, Return, Margin}

-- every cut set keeps more members in service than the margin in force
abbrev pub KeepsMore : StandingView → Type 0
KeepsMore standing = tight (units_out standing.held) standing.margin standing.cuts ≡ []

-- the margin rule judges a request: a take or a wish for a margin, but no return
abbrev pub is_judged : Request → Bool
is_judged (Take asked) = true
is_judged (Return unit) = false
is_judged (Margin number) = true

-- a place for the holder of each unit
abbrev pub HasAllUnits : StandingView → Type 0
HasAllUnits standing = length standing.held ≡ standing.units + 1
