-- What a run does to its seat, from what finding the cut sets of the deck's tree did.
use Rattle.std.specs.Prelude.{◌≡◌, ℕ, List, Option, Some, None}
use Rattle.std.proofs.Common.{sym, subst, inl, inr}
use Rattle.fault_definitions.specs.Tree.{FaultTree}
use Rattle.zdd_shared_table.specs.Seats.{Seated}
use Rattle.crew_script.specs.declared.dockets.Crew.{Crew}
use Rattle.deck_reading.specs.{declared.deck.CrewPart.CrewPart, Deck.StandsFor, Faults.IsWellFormed}
use Rattle.outage_engine.specs.{declared.refusal.Refusal.Refusal, declared.status.Method.Method}
use Rattle.outage_engine.specs.{declared.status.Status.Status, declared.status.Status.TheVariants.Done}
use Rattle.outage_engine.specs.{Answers.refusal_status, Gives.OfDeckOr, Runs.Tells}
use Rattle.outage_engine.specs.declared.refusal.Refusal.TheVariants as refusal
use Rattle.outage_engine.specs.declared.status.Method.TheVariants.{Plain, Lists, Diagram}
use Rattle.outage_engine.specs.Store.{IsFoundBy, IsLeftFor, KnowsDiagram}
use Rattle.outage_engine.specs.StoreAfter.{BearsOut, FindsFull, IsLeftBy, OfTreeOr}
use Rattle.outage_engine.proofs.Clauses.{of_deck}

module _ (own held left : Option (List ℕ)) (before after : Seated) where
  -- ---- for a deck that was read

  module _ (part : CrewPart) (tree : FaultTree) (crews : Option (List Crew))
      (read : OfDeckOr own held left (λ bytes. IsWellFormed part bytes tree crews)) where
    tree_of_deck : OfDeckOr own held left (λ bytes. StandsFor bytes tree)
    tree_of_deck =
        of_deck own held left (λ bytes. IsWellFormed part bytes tree crews) (λ bytes. StandsFor bytes tree)
        (λ bytes deck. deck.stands) read

    pub left_by : IsLeftFor tree before after → IsLeftBy own held left before after
    left_by left_for = (inr (tree, tree_of_deck, left_for.went), left_for.share)

    pub bears_out : (method : Method) → IsFoundBy before after tree method
        → BearsOut own held left before after (Done method)
    bears_out Diagram known = (tree, tree_of_deck, known)
    bears_out Lists full = full
    bears_out Plain none = none

  -- ---- for a status

  -- no refusal has a method
  pub refusal_bears_out : (why : Refusal) → BearsOut own held left before after (refusal_status why)
  refusal_bears_out refusal.Usage = tt
  refusal_bears_out refusal.ReadFault = tt
  refusal_bears_out refusal.TooLong = tt
  refusal_bears_out (refusal.Fault fault) = tt
  refusal_bears_out refusal.ListLimit = tt
  refusal_bears_out refusal.OrderLimit = tt

  -- a run that told a status ends with it, or with a write fault
  pub told_bears_out : {K : Type 0} (taken : K → Option (List ℕ)) (faults : K → ℕ) (old new : K) (status : Status)
      (text : List ℕ) (result : Status)
      → BearsOut own held left before after status → Tells taken faults old new status text result
      → BearsOut own held left before after result
  told_bears_out taken faults old new status text result bears told = elim told [
    | inl whole ↦ subst (BearsOut own held left before after) (sym whole.0) bears
    | inr short ↦ subst (BearsOut own held left before after) (sym short.0) tt
  ]

  pub leaves_diagram : {result : Status} → BearsOut own held left before after result → result ≡ Done Diagram
      → OfTreeOr own held left (KnowsDiagram after)
  leaves_diagram bears is = subst (BearsOut own held left before after) is bears

  pub finds_full : (result : Status) → BearsOut own held left before after result → FindsFull before after result
  finds_full result bears is = subst (BearsOut own held left before after) is bears

-- of a deck that is made no input bears on the method
pub bears_made : (deck : List ℕ) (held left : Option (List ℕ)) (before after : Seated) (method : Method)
    → BearsOut (Some deck) None None before after (Done method)
    → BearsOut (Some deck) held left before after (Done method)
bears_made deck held left before after Diagram known = known
bears_made deck held left before after Lists full = full
bears_made deck held left before after Plain none = none
