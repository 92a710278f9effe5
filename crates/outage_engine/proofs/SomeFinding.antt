-- A deck has a finding: its first fault, a limit that is passed, or its tree, cut list and crews.
use Rattle.std.specs.Prelude.{◌⊎◌, ℕ, List, []}
use Rattle.std.proofs.Common.{refl, inl, inr}
use Rattle.fault_definitions.specs.{Cut.IsCutList, Tree.FaultTree}
use Rattle.deck_reading.specs.{declared.deck.CrewPart.CrewPart, Faults.HasDeck, Faults.HasDeckFault}
use Rattle.outage_engine.specs.Finding.{AreCutsFor, CutsAlone, CutsWanted, Finding, Faulty, Finds, Found, NoCuts, Wants}
use Rattle.outage_engine.specs.Finding.{WithOrders, bad_deck, judged, well_formed}

module _ (decks : (part : CrewPart) (bytes : List ℕ) → HasDeck part bytes ⊎ HasDeckFault part bytes)
    (listed : (tree : FaultTree) → (cuts : List (List ℕ)) × IsCutList tree cuts) where
  cuts_for : (wanted : CutsWanted) (tree : FaultTree) → (cuts : List (List ℕ)) × AreCutsFor wanted tree cuts
  cuts_for NoCuts tree = ([], refl)
  cuts_for CutsAlone tree = listed tree
  cuts_for (WithOrders most) tree = listed tree

  pub some_finding : (wants : Wants) (bytes : List ℕ) → (finding : Finding) × Finds wants bytes finding
  some_finding wants bytes =
      elim (decks wants.crews bytes) [
        | inl (tree, crews, deck) ↦
            let (cuts, list) = cuts_for wants.cuts tree in
            let found : Found = record { tree = tree; cuts = cuts; crews = crews } in
            (judged wants.cuts found, well_formed found deck list refl)
        | inr (fault, refused) ↦ (Faulty fault, bad_deck fault refused refl)
      ]
