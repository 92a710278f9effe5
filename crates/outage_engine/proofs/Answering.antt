-- From what the code finds to what the words give.
use Rattle.std.specs.Prelude.{◌≡◌, ℕ, ◌<◌, ◌≤◌, nat_lt, List, [], ◌++◌, length, Option, Some, None, if◌then◌else◌}
use Rattle.std.specs.Io.KnownBytes.{Consumes, IsAtEnd}
use Rattle.std.proofs.Common.{sym, ap, subst, ◌∙◌, refl, append-nil}
use Rattle.std.proofs.lemmas.Bool.{cond-true, cond-false, lt-ltb, le-ltb}
use Rattle.unit_sets.specs.CutOrder.{weight, weight_limit}
use Rattle.fault_definitions.specs.{Tree.FaultTree, Cut.IsCutList}
use Rattle.cutset_lists.specs.Generation.{HasHeavyCutList}
use Rattle.cut_sequences.specs.Orders.{order_limit, order_lists, order_total}
use Rattle.crew_script.specs.declared.dockets.Crew.{Crew}
use Rattle.edge_io.specs.declared.reading.TheConstants.{INPUT_LIMIT}
use Rattle.board_report.specs.{CheckText.check_text, PrintText.print_text}
use Rattle.cut_texts.specs.{CutsText.cuts_text, CutsText.listed_with, DiagramText.sizes_text}
use Rattle.deck_reading.specs.declared.deck.CrewPart.{CrewPart}
use Rattle.deck_reading.specs.declared.deck.CrewPart.TheVariants.{Unread, IfAny}
use Rattle.outage_engine.specs.{declared.listing.Listing.Listing, declared.sizes.Counts.Counts}
use Rattle.outage_engine.specs.{declared.refusal.RunEnd.RunEnd, declared.refusal.RunEnd.TheVariants.Refused}
use Rattle.outage_engine.specs.{declared.refusal.RunEnd.TheVariants.NoMemory, Gives.OfDeckOr, Gives.OfInput}
use Rattle.outage_engine.specs.{Store.method_by}
use Rattle.outage_engine.specs.declared.refusal.Refusal.TheVariants.{Usage, ReadFault, TooLong, Fault, ListLimit}
use Rattle.outage_engine.specs.declared.refusal.Refusal.TheVariants.{OrderLimit}
use Rattle.outage_engine.specs.Answers.{AreCountsOf, IfRefused, IsFaultOfDeck, IsLimitOf, IsListingOf, IsReadRefusal}
use Rattle.outage_engine.specs.Answers.{IsRefusalFor, IsWeightLimitOf, found_in, listing_text}
use Rattle.deck_reading.specs.Faults.{IsDeckFault, IsWellFormed}
use Rattle.outage_engine.specs.Finding.{Finds, Found, Faulty, Ready, TooHeavy, TooManyOrders, Wants, WithOrders}
use Rattle.outage_engine.specs.Finding.{bad_deck, judged, well_formed}
use Rattle.outage_engine.specs.Texts.{IsCheckText, IsCutsText, IsDiagramText, IsPrintText, cuts_said, for_diagram}
use Rattle.outage_engine.proofs.Clauses.{of_deck, of_input}

-- ---- what is judged of a tree with its cut list

module _ (most : ℕ) (found : Found) where
  judged-heavy : weight_limit < weight found.cuts → judged (WithOrders most) found ≡ TooHeavy
  judged-heavy heavy =
      cond-true (nat_lt weight_limit (weight found.cuts)) _ _ (lt-ltb weight_limit (weight found.cuts) heavy)

  judged-light : weight found.cuts ≤ weight_limit
      → judged (WithOrders most) found ≡ (if nat_lt order_limit (order_total (order_lists found.tree found.cuts most))
      then TooManyOrders else Ready found)
  judged-light light =
      cond-false (nat_lt weight_limit (weight found.cuts)) _ _ (le-ltb weight_limit (weight found.cuts) light)

  judged-many : weight found.cuts ≤ weight_limit → order_limit < order_total (order_lists found.tree found.cuts most)
      → judged (WithOrders most) found ≡ TooManyOrders
  judged-many light many =
      judged-light light ∙ cond-true (nat_lt order_limit (order_total (order_lists found.tree found.cuts most))) _ _
      (lt-ltb order_limit (order_total (order_lists found.tree found.cuts most)) many)

  judged-ready : weight found.cuts ≤ weight_limit → order_total (order_lists found.tree found.cuts most) ≤ order_limit
      → judged (WithOrders most) found ≡ Ready found
  judged-ready light few =
      judged-light light ∙ cond-false (nat_lt order_limit (order_total (order_lists found.tree found.cuts most))) _ _
      (le-ltb order_limit (order_total (order_lists found.tree found.cuts most)) few)

-- ---- what is found in a deck that was read

module _ {part : CrewPart} (most : ℕ) {bytes : List ℕ} {tree : FaultTree} {crews : Option (List Crew)}
    (deck : IsWellFormed part bytes tree crews) where
  abbrev with_orders : Wants
  with_orders = record { crews = part; cuts = WithOrders most }

  abbrev as_found : List (List ℕ) → Found
  as_found cuts = record { tree = tree; cuts = cuts; crews = crews }

  pub finds_heavy : HasHeavyCutList tree → Finds with_orders bytes TooHeavy
  finds_heavy (cuts, list, heavy) =
      well_formed (as_found cuts) deck list (sym (judged-heavy most (as_found cuts) heavy))

  pub finds_many : IsLimitOf most tree OrderLimit → Finds with_orders bytes TooManyOrders
  finds_many (cuts, list, light, many) =
      well_formed (as_found cuts) deck list (sym (judged-many most (as_found cuts) light many))

  pub finds_ready : {listing : Listing} → IsListingOf most tree listing
      → Finds with_orders bytes (Ready (found_in listing crews))
  finds_ready {listing} is =
      let found : Found = found_in listing crews in
      let few : order_total (order_lists tree listing.cuts most) ≤ order_limit =
      subst (λ orders. order_total orders ≤ order_limit) is.orders is.few in
      well_formed found (subst (λ t. IsWellFormed part bytes t crews) (sym is.of_tree) deck)
      (subst (λ t. IsCutList t listing.cuts) (sym is.of_tree) is.list.all)
      (sym (judged-ready most found is.list.light
      (subst (λ t. order_total (order_lists t listing.cuts most) ≤ order_limit) (sym is.of_tree) few)))

pub orders_of_listing : {most : ℕ} {tree : FaultTree} {listing : Listing} → IsListingOf most tree listing
    → listing.orders ≡ order_lists listing.tree listing.cuts most
orders_of_listing {most} {listing} is = is.orders ∙ ap (λ t. order_lists t listing.cuts most) (sym is.of_tree)

-- the text of a listing is what is said of its cut list
pub said_of : (most : ℕ) (listing : Listing) (crews : Option (List Crew))
    → listing.orders ≡ order_lists listing.tree listing.cuts most
    → listing_text listing ≡ cuts_said most (found_in listing crews)
said_of most listing crews is = ap (λ orders. cuts_text listing.tree (listed_with listing.cuts orders)) is

check_said : {bytes : List ℕ} {tree : FaultTree} {crews : Option (List Crew)} → IsWellFormed IfAny bytes tree crews
    → IsCheckText bytes (check_text tree crews)
check_said {tree} {crews} deck =
    let found : Found = record { tree = tree; cuts = []; crews = crews } in
    record { found = found; finds = well_formed found deck refl refl; is = refl }

print_said : {bytes : List ℕ} {tree : FaultTree} {crews : Option (List Crew)} → IsWellFormed Unread bytes tree crews
    → IsPrintText bytes (print_text tree)
print_said {tree} {crews} deck =
    let found : Found = record { tree = tree; cuts = []; crews = crews } in
    record { found = found; finds = well_formed found deck refl refl; is = refl }

-- ---- what is found for `diagram`

module _ {bytes : List ℕ} {tree : FaultTree} {crews : Option (List Crew)}
    (deck : IsWellFormed Unread bytes tree crews) where
  abbrev with_cuts : List (List ℕ) → Found
  with_cuts cuts = record { tree = tree; cuts = cuts; crews = crews }

  finds_heavy_cuts : HasHeavyCutList tree → Finds for_diagram bytes TooHeavy
  finds_heavy_cuts (cuts, list, heavy) =
      well_formed (with_cuts cuts) deck list (sym (cond-true (nat_lt weight_limit (weight cuts)) TooHeavy
      (Ready (with_cuts cuts)) (lt-ltb weight_limit (weight cuts) heavy)))

  finds_cuts : (cuts : List (List ℕ)) → IsCutList tree cuts → weight cuts ≤ weight_limit
      → Finds for_diagram bytes (Ready (with_cuts cuts))
  finds_cuts cuts list light =
      well_formed (with_cuts cuts) deck list (sym (cond-false (nat_lt weight_limit (weight cuts)) TooHeavy
      (Ready (with_cuts cuts)) (le-ltb weight_limit (weight cuts) light)))

  sizes_said : {counts : Counts} → AreCountsOf tree counts
      → IsDiagramText (method_by counts.nodes) bytes (sizes_text tree counts.cuts counts.members counts.nodes)
  sizes_said {counts} are = record {
    found = with_cuts are.list;
    finds = finds_cuts are.list are.within.all are.within.light;
    nodes = counts.nodes;
    of_method = refl;
    counted = are.nodes;
    is =
        ap (λ n. sizes_text tree n counts.members counts.nodes) are.counted
        ∙ ap (λ n. sizes_text tree (length are.list) n counts.nodes) are.summed;
  }

-- ---- a fact of the bytes that were read is one of the input

pub of_whole : (held left : Option (List ℕ)) (bytes : List ℕ) (P : List ℕ → Type 0) → Consumes held left bytes
    → IsAtEnd left → length bytes ≤ INPUT_LIMIT → P bytes → OfInput held left P
of_whole None left bytes P consumes at_end within holds = tt
of_whole (Some all) None bytes P consumes at_end within holds = absurd consumes
of_whole (Some all) (Some rest) bytes P consumes at_end within holds =
    let same : all ≡ bytes = consumes ∙ ap (λ l. bytes ++ l) at_end ∙ append-nil bytes in
    (at_end, subst (λ l. length l ≤ INPUT_LIMIT) (sym same) within, subst P (sym same) holds)

-- ---- texts, for an input

module _ (held left : Option (List ℕ)) (tree : FaultTree) where
  module _ (crews : Option (List Crew)) (read : OfInput held left (λ bytes. IsWellFormed Unread bytes tree crews)) where
    pub cuts_of_input : {most : ℕ} {listing : Listing} → IsListingOf most tree listing
        → OfInput held left (λ bytes. IsCutsText most bytes (listing_text listing))
    cuts_of_input {most} {listing} is =
        of_input held left (λ bytes. IsWellFormed Unread bytes tree crews)
        (λ bytes. IsCutsText most bytes (listing_text listing))
        (λ bytes deck. record {
          found = found_in listing crews;
          finds = finds_ready most deck is;
          is = said_of most listing crews (orders_of_listing is);
        }) read

    pub diagram_of_input : {counts : Counts} → AreCountsOf tree counts
        → OfInput held left (λ bytes. IsDiagramText (method_by counts.nodes) bytes
        (sizes_text tree counts.cuts counts.members counts.nodes))
    diagram_of_input {counts} are =
        of_input held left (λ bytes. IsWellFormed Unread bytes tree crews)
        (λ bytes. IsDiagramText (method_by counts.nodes) bytes
        (sizes_text tree counts.cuts counts.members counts.nodes)) (λ bytes deck. sizes_said deck are) read

    pub print_of_input : OfInput held left (λ bytes. IsPrintText bytes (print_text tree))
    print_of_input =
        of_input held left (λ bytes. IsWellFormed Unread bytes tree crews)
        (λ bytes. IsPrintText bytes (print_text tree)) (λ bytes deck. print_said deck) read

  pub check_of_input : (crews : Option (List Crew)) → OfInput held left (λ bytes. IsWellFormed IfAny bytes tree crews)
      → OfInput held left (λ bytes. IsCheckText bytes (check_text tree crews))
  check_of_input crews read =
      of_input held left (λ bytes. IsWellFormed IfAny bytes tree crews)
      (λ bytes. IsCheckText bytes (check_text tree crews)) (λ bytes deck. check_said deck) read

-- ---- refusals

module _ (own held left : Option (List ℕ)) (rose : Type 0) where
  -- a limit of the tree is one of the command
  module _ (tree : FaultTree) (crews : Option (List Crew)) where
    pub limit_for : (part : CrewPart) (most : ℕ) (end : RunEnd)
        → OfDeckOr own held left (λ bytes. IsWellFormed part bytes tree crews) → IfRefused (IsLimitOf most tree) end
        → IfRefused (IsRefusalFor own (record { crews = part; cuts = WithOrders most }) held left rose) end
    limit_for part most (Refused ListLimit) read heavy =
        of_deck own held left (λ bytes. IsWellFormed part bytes tree crews)
        (λ bytes. Finds (record { crews = part; cuts = WithOrders most }) bytes TooHeavy)
        (λ bytes deck. finds_heavy most deck heavy) read
    limit_for part most (Refused OrderLimit) read many =
        of_deck own held left (λ bytes. IsWellFormed part bytes tree crews)
        (λ bytes. Finds (record { crews = part; cuts = WithOrders most }) bytes TooManyOrders)
        (λ bytes deck. finds_many most deck many) read
    limit_for part most (Refused (Fault fault)) read never = absurd never
    limit_for part most (Refused ReadFault) read never = absurd never
    limit_for part most (Refused TooLong) read never = absurd never
    limit_for part most (Refused Usage) read never = absurd never
    limit_for part most NoMemory read free = tt

    -- so is the limit of weight one of `diagram`
    pub weight_limit_for : (end : RunEnd) → OfDeckOr own held left (λ bytes. IsWellFormed Unread bytes tree crews)
        → IfRefused (IsWeightLimitOf tree) end → IfRefused (IsRefusalFor own for_diagram held left rose) end
    weight_limit_for (Refused ListLimit) read heavy =
        of_deck own held left (λ bytes. IsWellFormed Unread bytes tree crews)
        (λ bytes. Finds for_diagram bytes TooHeavy) (λ bytes deck. finds_heavy_cuts deck heavy) read
    weight_limit_for (Refused OrderLimit) read never = absurd never
    weight_limit_for (Refused (Fault fault)) read never = absurd never
    weight_limit_for (Refused ReadFault) read never = absurd never
    weight_limit_for (Refused TooLong) read never = absurd never
    weight_limit_for (Refused Usage) read never = absurd never
    weight_limit_for NoMemory read free = tt

-- why no deck is read is why the command is refused
pub refused_for : (held left : Option (List ℕ)) (rose : Type 0) (wants : Wants) (end : RunEnd)
    → IfRefused (IsReadRefusal wants.crews held left rose) end → IfRefused (IsRefusalFor None wants held left rose) end
refused_for held left rose wants (Refused (Fault fault)) holds =
    of_input held left (λ bytes. IsDeckFault wants.crews bytes fault) (λ bytes. Finds wants bytes (Faulty fault))
    (λ bytes refused. bad_deck fault refused refl) holds
refused_for held left rose wants (Refused ReadFault) rises = (refl, rises)
refused_for held left rose wants (Refused TooLong) beyond = (refl, beyond)
refused_for held left rose wants (Refused ListLimit) never = absurd never
refused_for held left rose wants (Refused OrderLimit) never = absurd never
refused_for held left rose wants (Refused Usage) never = absurd never
refused_for held left rose wants NoMemory free = tt

-- the same of a deck that the command makes itself
pub fault_for : (deck : List ℕ) (wants : Wants) (end : RunEnd) → IfRefused (IsFaultOfDeck wants.crews deck) end
    → IfRefused (IsRefusalFor (Some deck) wants None None ⊥) end
fault_for deck wants (Refused (Fault fault)) refused = bad_deck fault refused refl
fault_for deck wants (Refused ReadFault) never = absurd never
fault_for deck wants (Refused TooLong) never = absurd never
fault_for deck wants (Refused ListLimit) never = absurd never
fault_for deck wants (Refused OrderLimit) never = absurd never
fault_for deck wants (Refused Usage) never = absurd never
fault_for deck wants NoMemory free = tt

-- and no input bears on it
pub made_for : (held left : Option (List ℕ)) (rose : Type 0) (deck : List ℕ) (wants : Wants) (end : RunEnd)
    → IfRefused (IsRefusalFor (Some deck) wants None None ⊥) end
    → IfRefused (IsRefusalFor (Some deck) wants held left rose) end
made_for held left rose deck wants (Refused (Fault fault)) holds = holds
made_for held left rose deck wants (Refused ReadFault) never = absurd never.1
made_for held left rose deck wants (Refused TooLong) never = let clash = never.0 in absurd cc
made_for held left rose deck wants (Refused ListLimit) holds = holds
made_for held left rose deck wants (Refused OrderLimit) holds = holds
made_for held left rose deck wants (Refused Usage) never = absurd never
made_for held left rose deck wants NoMemory free = tt
