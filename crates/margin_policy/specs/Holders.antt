-- Which crews hold units, and which crews replies name: they are crews that asked before.
use Rattle.std.specs.Prelude.{ℕ, ◌<◌, Option, Some, None}
use Rattle.unit_sets.specs.declared.request.CrewNo.{CrewNo}
use Rattle.margin_policy.specs.{declared.request.Reply.Reply, declared.request.Reply.TheVariants.AlreadyOut}
use Rattle.margin_policy.specs.{declared.request.Reply.TheVariants.HeldBy, Held.Held, Held.holder_of}

-- a holder is one of so many crews
abbrev pub HolderBelow : ℕ → Option CrewNo → Type 0
HolderBelow crews None = Unit {0}
HolderBelow crews (Some holder) = holder.0 < crews

-- each holder is
abbrev pub HoldersBelow : ℕ → Held → Type 0
HoldersBelow crews held = (unit : ℕ) → HolderBelow crews (holder_of held unit)

-- the crew that a reply names is, where it names one
abbrev pub NamesCrewBelow : ℕ → Reply → Type 0
NamesCrewBelow crews (AlreadyOut holder) = holder.0 < crews
NamesCrewBelow crews (HeldBy holder) = holder.0 < crews
NamesCrewBelow crews _ = Unit {0}
