-- What follows from the definitions of `specs/Holders`.
use Rattle.std.specs.Prelude.{ℕ, ◌<◌, List, [], ◌∷◌, ◌++◌, ◌+◌, slice_set, Option, Some, None}
use Rattle.std.specs.Prelude.{if◌then◌else◌, Bool, true, false}
use Rattle.std.proofs.Common.{sym, subst, inl, inr}
use Rattle.unit_sets.specs.declared.request.CrewNo.{CrewNo}
use Rattle.residual_ledger.specs.Tight.{tight}
use Rattle.margin_policy.specs.{declared.request.Request.Request, declared.request.Reply.Reply}
use Rattle.margin_policy.specs.declared.request.Request.TheVariants.{Take, Return, Margin}
use Rattle.margin_policy.specs.declared.request.Reply.TheVariants.{Granted, UnknownUnit}
use Rattle.margin_policy.specs.declared.request.Reply.TheVariants.{HeldBy, NotSupervisor}
use Rattle.margin_policy.specs.Held.{Held, holder_of, units_out, with_held, with_all_held, or_else}
use Rattle.margin_policy.specs.Held.{first_holder}
use Rattle.margin_policy.specs.Decide.{is_same_crew, granted_unless, unless_held, is_supervisor, decide_return}
use Rattle.margin_policy.specs.Decide.{held_after_granted, held_after, is_granted}
use Rattle.margin_policy.specs.Standing.{StandingView, reply_of, nothing_held}
use Rattle.margin_policy.proofs.{HeldLaws.as_before_or_set, HeldLemmas.no_holder}
use Rattle.margin_policy.specs.Holders.{HolderBelow, HoldersBelow, NamesCrewBelow}

module _ (crews : ℕ) where
  -- ---- the replies

  first_below : (held : Held) → HoldersBelow crews held → (units : List ℕ)
      → HolderBelow crews (first_holder held units)
  first_below held below [] = tt
  first_below held below (unit ∷ units) = either_below (holder_of held unit) (first_holder held units)
      (below unit) (first_below held below units)
    where
      either_below : (first later : Option CrewNo) → HolderBelow crews first → HolderBelow crews later
          → HolderBelow crews (or_else first later)
      either_below None later one more = more
      either_below (Some holder) later one more = one

  take_below : (unknown : Bool) (first : Option CrewNo) (numbers : List ℕ) → HolderBelow crews first
      → NamesCrewBelow crews (if unknown then UnknownUnit else unless_held first (granted_unless numbers))
  take_below true first numbers below = tt
  take_below false None [] below = tt
  take_below false None (number ∷ numbers) below = tt
  take_below false (Some holder) numbers below = below

  held_by_below : (holder : CrewNo) (own : Bool) → holder.0 < crews
      → NamesCrewBelow crews (if own then Granted else HeldBy holder)
  held_by_below holder true below = tt
  held_by_below holder false below = below

  return_below : (crew : CrewNo) (holder : Option CrewNo) → HolderBelow crews holder
      → NamesCrewBelow crews (decide_return crew holder)
  return_below crew None below = tt
  return_below crew (Some holder) below = held_by_below holder (is_same_crew crew holder) below

  margin_below : (may : Bool) (numbers : List ℕ)
      → NamesCrewBelow crews (if may then granted_unless numbers else NotSupervisor)
  margin_below true [] = tt
  margin_below true (number ∷ numbers) = tt
  margin_below false numbers = tt

  -- a reply names a crew that holds a unit
  pub reply_names_below : (standing : StandingView) (crew : CrewNo) (request : Request)
      → HoldersBelow crews standing.held → NamesCrewBelow crews (reply_of standing crew request)
  reply_names_below standing crew (Take asked) below =
      take_below asked.unknown (first_holder standing.held asked.units)
      (tight (asked.units ++ units_out standing.held) standing.margin standing.cuts)
      (first_below standing.held below asked.units)
  reply_names_below standing crew (Return None) below = tt
  reply_names_below standing crew (Return (Some unit)) below =
      return_below crew (holder_of standing.held unit) (below unit)
  reply_names_below standing crew (Margin number) below =
      margin_below (is_supervisor standing.supervisor crew) (tight (units_out standing.held) number standing.cuts)

  -- ---- the holders

  set_below : (held : Held) (unit : ℕ) (holder : Option CrewNo) → HolderBelow crews holder
      → HoldersBelow crews held → HoldersBelow crews (slice_set held unit holder)
  set_below held unit holder new below other = elim (as_before_or_set held unit holder other) [
    | inl before ↦ subst (HolderBelow crews) (sym before) (below other)
    | inr now ↦ subst (HolderBelow crews) (sym now) new
  ]

  all_below : (crew : CrewNo) → crew.0 < crews → (units : List ℕ) (held : Held) → HoldersBelow crews held
      → HoldersBelow crews (with_all_held crew units held)
  all_below crew within [] held below = below
  all_below crew within (unit ∷ units) held below =
      all_below crew within units (with_held crew unit held) (set_below held unit (Some crew) within below)

  granted_below : (crew : CrewNo) (request : Request) (held : Held) → crew.0 < crews
      → HoldersBelow crews held → HoldersBelow crews (held_after_granted crew request held)
  granted_below crew (Take asked) held within below = all_below crew within asked.units held below
  granted_below crew (Return None) held within below = below
  granted_below crew (Return (Some unit)) held within below = set_below held unit None tt below
  granted_below crew (Margin number) held within below = below

  -- after a request of a crew the holders are that crew and those before
  pub holders_after_below : (crew : CrewNo) (request : Request) (reply : Reply) (held : Held)
      → crew.0 < crews → HoldersBelow crews held → HoldersBelow crews (held_after crew request reply held)
  holders_after_below crew request reply held within below = by_grant (is_granted reply)
    where
      by_grant : (granted : Bool) → HoldersBelow crews (if granted then held_after_granted crew request held else held)
      by_grant true = granted_below crew request held within below
      by_grant false = below

  -- where nothing is out no crew holds anything
  pub none_held_below : (units : ℕ) → HoldersBelow crews (nothing_held units)
  none_held_below units unit = subst (HolderBelow crews) (sym (no_holder (units + 1) unit)) tt
