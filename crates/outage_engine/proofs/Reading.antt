-- A deck that a source held, and why there is none.
use Rattle.std.specs.Prelude.{◌≡◌, ℕ, ◌≤◌, List, length, Option, Some, None, Result, Ok, Err, IsSome}
use Rattle.std.specs.Io.KnownBytes.{Consumes, IsAtEnd}
use Rattle.std.proofs.Common.{subst, refl}
use Rattle.fault_definitions.specs.Tree.{FaultTree}
use Rattle.edge_io.specs.declared.reading.TheConstants.{INPUT_LIMIT}
use Rattle.crew_script.specs.{declared.dockets.Crew.Crew, declared.fault.CrewFault.CrewFault}
use Rattle.deck_reading.specs.declared.deck.CrewPart.{CrewPart}
use Rattle.deck_reading.specs.declared.deck.CrewPart.TheVariants.{Unread, Needed}
use Rattle.deck_reading.specs.Deck.{crew_part}
use Rattle.deck_reading.specs.Faults.{IsDeckFault, IsWellFormed, crews_said}
use Rattle.outage_engine.specs.declared.refusal.Refusal.TheVariants as refusal
use Rattle.outage_engine.specs.declared.refusal.RunEnd.{RunEnd}
use Rattle.outage_engine.specs.declared.refusal.RunEnd.TheVariants.{Refused, NoMemory}
use Rattle.outage_engine.specs.Answers.{IfRefused, IsFaultOfDeck, IsReadRefusal}
use Rattle.outage_engine.proofs.Answering.{of_whole}

-- a crew part that is needed was read
pub crews_are_there : {bytes : List ℕ} {tree : FaultTree} {crews : Option (List Crew)}
    → IsWellFormed Needed bytes tree crews → IsSome crews
crews_are_there {bytes} {crews} deck = said_some (crew_part bytes) crews (λ none. deck.has_crews (refl, none)) deck.said
  where
    said_some : (said : Option (Result (List Crew) CrewFault)) (crews : Option (List Crew)) → ¬ (said ≡ None)
        → crews_said said ≡ Ok crews → IsSome crews
    said_some None crews some is = absurd (some refl)
    said_some (Some (Err fault)) crews some is = absurd cc
    said_some (Some (Ok read)) crews some is = let same : Some read ≡ crews = cc in subst IsSome same refl

-- a deck whose crew part was passed over has no crews
pub without_crews : {bytes : List ℕ} {tree : FaultTree} (crews : Option (List Crew))
    → IsWellFormed Unread bytes tree crews → IsWellFormed Unread bytes tree None
without_crews crews deck = record { has_crews = deck.has_crews; stands = deck.stands; said = refl }

-- why a deck that the source held is refused, as a run is
pub refused_reading : (part : CrewPart) (held left : Option (List ℕ)) (rose : Type 0) (bytes : List ℕ) (end : RunEnd)
    → Consumes held left bytes → IsAtEnd left → length bytes ≤ INPUT_LIMIT → IfRefused (IsFaultOfDeck part bytes) end
    → IfRefused (IsReadRefusal part held left rose) end
refused_reading part held left rose bytes (Refused (refusal.Fault fault)) consumes at_end within holds =
    of_whole held left bytes (λ b. IsDeckFault part b fault) consumes at_end within holds
refused_reading part held left rose bytes (Refused refusal.ReadFault) consumes at_end within never = absurd never
refused_reading part held left rose bytes (Refused refusal.TooLong) consumes at_end within never = absurd never
refused_reading part held left rose bytes (Refused refusal.ListLimit) consumes at_end within never = absurd never
refused_reading part held left rose bytes (Refused refusal.OrderLimit) consumes at_end within never = absurd never
refused_reading part held left rose bytes (Refused refusal.Usage) consumes at_end within never = absurd never
refused_reading part held left rose bytes NoMemory consumes at_end within free = tt
