-- What is printed for a deck stands for its tree.
use Rattle.std.specs.Prelude.{◌≡◌, ℕ, List}
use Rattle.std.proofs.Common.{sym, subst}
use Rattle.fault_definitions.specs.Tree.{FaultTree}
use Rattle.deck_reading.specs.Deck.{StandsFor}
use Rattle.board_report.specs.PrintText.{print_text}
use Rattle.outage_engine.specs.Finding.{Finds, Found, Ready, bad_deck, well_formed}
use Rattle.outage_engine.specs.Texts.{IsPrintText, for_print}

-- a deck whose tree alone is wanted stands for it
stands : {bytes : List ℕ} (found : Found) → Finds for_print bytes (Ready found) → StandsFor bytes found.tree
stands found (bad_deck fault refused is) = absurd (cc)
stands {bytes} found (well_formed other deck cuts is) =
    let same : other ≡ found = cc in
    subst (λ (f : Found). StandsFor bytes f.tree) same deck.stands

pub printed_stands : ((bytes : List ℕ) (tree : FaultTree) → StandsFor bytes tree → StandsFor (print_text tree) tree)
    → (bytes text : List ℕ)
    → IsPrintText bytes text → (tree : FaultTree) × StandsFor bytes tree × StandsFor text tree
printed_stands again bytes text printed =
    let tree = printed.found.tree in
    let first = stands printed.found printed.finds in
    (tree, first, subst (λ t. StandsFor t tree) (sym printed.is) (again bytes tree first))
