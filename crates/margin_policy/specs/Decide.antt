-- The decision on a request, and what stands after it.
use Rattle.std.specs.Prelude.{ℕ, Bool, true, false, ◌==◌, ◌++◌, List, [], ◌∷◌, Option, Some, None, if◌then◌else◌}
use Rattle.unit_sets.specs.declared.request.CrewNo.{CrewNo}
use Rattle.residual_ledger.specs.Tight.{tight}
use Rattle.margin_policy.specs.{declared.request.Request.Request, declared.request.Reply.Reply, Asked.AskedView}
use Rattle.margin_policy.specs.declared.request.Request.TheVariants.{Take, Return, Margin}
use Rattle.margin_policy.specs.declared.request.Reply.TheVariants.{Granted, Denied, UnknownUnit, AlreadyOut, NotOut}
use Rattle.margin_policy.specs.declared.request.Reply.TheVariants.{HeldBy, NotSupervisor}
use Rattle.margin_policy.specs.Held.{Held, holder_of, units_out, with_all_held, without_held, first_holder}

-- whether two crews are the same
abbrev pub is_same_crew : CrewNo → CrewNo → Bool
is_same_crew crew other = crew.0 == other.0

-- granted where no cut set is tight, else denied with the number of the first tight one
abbrev pub granted_unless : List ℕ → Reply
granted_unless [] = Granted
granted_unless (number ∷ others) = Denied number

-- already out with the holder where there is one, else the reply
abbrev pub unless_held : Option CrewNo → Reply → Reply
unless_held (Some holder) reply = AlreadyOut holder
unless_held None reply = reply

-- The take of some units: no unit may be unknown, none may be out, and no cut set may be tight with all of them out
-- too.
abbrev pub decide_take : List (List ℕ) → Held → ℕ → AskedView → Reply
decide_take cuts held margin asked =
    if asked.unknown then UnknownUnit
    else unless_held (first_holder held asked.units)
    (granted_unless (tight (asked.units ++ units_out held) margin cuts))

-- the return of a unit by a crew, by who holds it
abbrev pub decide_return : CrewNo → Option CrewNo → Reply
decide_return crew None = NotOut
decide_return crew (Some holder) = if is_same_crew crew holder then Granted else HeldBy holder

-- whether a crew is the supervisor
abbrev pub is_supervisor : Option CrewNo → CrewNo → Bool
is_supervisor None crew = false
is_supervisor (Some supervisor) crew = is_same_crew crew supervisor

-- the wish for a margin: only the supervisor may, and no cut set may be tight at it
abbrev pub decide_margin : List (List ℕ) → Held → Option CrewNo → CrewNo → ℕ → Reply
decide_margin cuts held supervisor crew number =
    if is_supervisor supervisor crew then granted_unless (tight (units_out held) number cuts) else NotSupervisor

-- the reply to a request of a crew
abbrev pub decide : List (List ℕ) → Held → ℕ → Option CrewNo → CrewNo → Request → Reply
decide cuts held margin supervisor crew (Take asked) = decide_take cuts held margin asked
decide cuts held margin supervisor crew (Return None) = UnknownUnit
decide cuts held margin supervisor crew (Return (Some unit)) = decide_return crew (holder_of held unit)
decide cuts held margin supervisor crew (Margin number) = decide_margin cuts held supervisor crew number

-- who holds what after a granted request
abbrev pub held_after_granted : CrewNo → Request → Held → Held
held_after_granted crew (Take asked) held = with_all_held crew asked.units held
held_after_granted crew (Return None) held = held
held_after_granted crew (Return (Some unit)) held = without_held unit held
held_after_granted crew (Margin number) held = held

-- the margin after a granted request
abbrev pub margin_after_granted : Request → ℕ → ℕ
margin_after_granted (Take asked) margin = margin
margin_after_granted (Return unit) margin = margin
margin_after_granted (Margin number) margin = number

-- whether a reply grants its request
abbrev pub is_granted : Reply → Bool
is_granted Granted = true
is_granted _ = false

-- who holds what after a request and its reply: only a granted one changes anything
abbrev pub held_after : CrewNo → Request → Reply → Held → Held
held_after crew request reply held = if is_granted reply then held_after_granted crew request held else held

-- the margin after a request and its reply
abbrev pub margin_after : Request → Reply → ℕ → ℕ
margin_after request reply margin = if is_granted reply then margin_after_granted request margin else margin
