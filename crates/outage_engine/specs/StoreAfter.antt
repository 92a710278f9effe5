-- What a run does to the seat that it is handed.
use Rattle.std.specs.Prelude.{◌≡◌, ◌⊎◌, ℕ, ◌<◌, List, Option}
use Rattle.fault_definitions.specs.Tree.{FaultTree}
use Rattle.tree_families.specs.Due.{IsDueToTree}
use Rattle.board_words.specs.Command.{command_of}
use Rattle.zdd_shared_table.specs.Seats.{Seated}
use Rattle.zdd_product.specs.Seats.{WentAll}
use Rattle.outage_engine.specs.{declared.status.Method.TheVariants.Lists, declared.status.Method.TheVariants.Diagram}
use Rattle.outage_engine.specs.{declared.status.Status.Status, declared.status.Status.TheVariants.Done, Gives.OfDeckOr}
use Rattle.outage_engine.specs.{Gives.own_deck, Store.KnowsDiagram}
use Rattle.deck_reading.specs.Deck.{StandsFor}

-- a fact of the tree that this deck stands for where there is one, and else of the input's
abbrev pub OfTreeOr : Option (List ℕ) → Option (List ℕ) → Option (List ℕ) → (FaultTree → Type 0) → Type 0
OfTreeOr own held left P = (tree : FaultTree) × OfDeckOr own held left (λ bytes. StandsFor bytes tree) × P tree

-- What a run that is about such a deck may do to a seat: nothing, or it keeps what it knew, and all that it has filled
-- and missed is due to the tree of the deck.
abbrev pub GoesFor : Option (List ℕ) → Option (List ℕ) → Option (List ℕ) → Seated → Seated → Type 0
GoesFor own held left before after =
    (after ≡ before) ⊎ OfTreeOr own held left (λ tree. WentAll (IsDueToTree tree) before after)

-- the same of the deck that the run of these words is about
abbrev pub GoesForDeck : List (List ℕ) → Option (List ℕ) → Option (List ℕ) → Seated → Seated → Type 0
GoesForDeck words held left before after = GoesFor (own_deck (command_of words)) held left before after

-- what a run that is about such a deck leaves of a seat, which keeps its share
abbrev pub IsLeftBy : Option (List ℕ) → Option (List ℕ) → Option (List ℕ) → Seated → Seated → Type 0
IsLeftBy own held left before after = GoesFor own held left before after × (after.share ≡ before.share)

-- a run that ends by the diagram leaves a seat that knows the diagram of the tree of the deck that it is about
abbrev pub LeavesDiagram : List (List ℕ) → Option (List ℕ) → Option (List ℕ) → Seated → Status → Type 0
LeavesDiagram words held left after result =
    result ≡ Done Diagram → OfTreeOr (own_deck (command_of words)) held left (KnowsDiagram after)

-- a run ends by lists only where one of its searches found the store full
abbrev pub FindsFull : Seated → Seated → Status → Type 0
FindsFull before after result = result ≡ Done Lists → before.fulls < after.fulls

-- the seat bears out the method with which a run that is about such a deck ends
abbrev pub BearsOut : Option (List ℕ) → Option (List ℕ) → Option (List ℕ) → Seated → Seated → Status → Type 0
BearsOut own held left before after (Done Diagram) = OfTreeOr own held left (KnowsDiagram after)
BearsOut own held left before after (Done Lists) = before.fulls < after.fulls
BearsOut own held left before after _ = Unit {0}
