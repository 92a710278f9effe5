-- A deck has one finding at most.
use Rattle.std.specs.Prelude.{◌≡◌, ℕ, List, Option}
use Rattle.std.proofs.Common.{sym, ap, subst, ◌∙◌}
use Rattle.fault_definitions.specs.Tree.{FaultTree}
use Rattle.fault_definitions.proofs.CutLaws.{same_cut_list}
use Rattle.crew_script.specs.declared.dockets.Crew.{Crew}
use Rattle.deck_reading.specs.Faults.{IsWellFormed}
use Rattle.deck_reading.proofs.OneDeck.{no_deck_and_fault, one_fault, same_crews, same_deck_tree}
use Rattle.outage_engine.specs.Finding.{AreCutsFor, CutsWanted, Finding, Faulty, Finds, Found, CutsAlone, NoCuts, Wants}
use Rattle.outage_engine.specs.Finding.{WithOrders, bad_deck, judged, well_formed}

abbrev found_as : FaultTree → List (List ℕ) → Option (List Crew) → Found
found_as tree cuts crews = record { tree = tree; cuts = cuts; crews = crews }

same_cuts : (wanted : CutsWanted) (tree : FaultTree) (cuts : List (List ℕ)) {cuts' : List (List ℕ)}
    → AreCutsFor wanted tree cuts
    → AreCutsFor wanted tree cuts' → cuts ≡ cuts'
same_cuts NoCuts tree cuts is is' = is ∙ sym is'
same_cuts CutsAlone tree cuts {cuts'} is is' = same_cut_list tree cuts cuts' is is'
same_cuts (WithOrders most) tree cuts {cuts'} is is' = same_cut_list tree cuts cuts' is is'

same_found : (wants : Wants) {bytes : List ℕ} (one two : Found) → IsWellFormed wants.crews bytes one.tree one.crews
    → IsWellFormed wants.crews bytes two.tree two.crews
    → AreCutsFor wants.cuts one.tree one.cuts → AreCutsFor wants.cuts two.tree two.cuts → one ≡ two
same_found wants {bytes} one two deck deck' list list' =
    let trees : one.tree ≡ two.tree = same_deck_tree deck.stands deck'.stands in
    let cuts : one.cuts ≡ two.cuts =
    same_cuts wants.cuts two.tree one.cuts (subst (λ t. AreCutsFor wants.cuts t one.cuts) trees list) list' in
    let crews : one.crews ≡ two.crews = same_crews wants.crews bytes deck.said deck'.said in
    ap (λ t. found_as t one.cuts one.crews) trees
    ∙ (ap (λ c. found_as two.tree c one.crews) cuts ∙ ap (found_as two.tree two.cuts) crews)

pub one_finding : (wants : Wants) (bytes : List ℕ) (one two : Finding) → Finds wants bytes one → Finds wants bytes two
    → one ≡ two
one_finding wants bytes one two (bad_deck fault refused is) (bad_deck fault' refused' is') =
    is ∙ ap (λ f. Faulty f) (one_fault wants.crews bytes fault fault' refused refused') ∙ sym is'
one_finding wants bytes one two (bad_deck fault refused is) (well_formed found deck list is') =
    no_deck_and_fault wants.crews bytes found.tree found.crews fault deck refused
one_finding wants bytes one two (well_formed found deck list is) (bad_deck fault refused is') =
    no_deck_and_fault wants.crews bytes found.tree found.crews fault deck refused
one_finding wants bytes one two (well_formed found deck list is) (well_formed found' deck' list' is') =
    is ∙ ap (judged wants.cuts) (same_found wants found found' deck deck' list list') ∙ sym is'
