-- An answer before it is written, or why there is none, and what it has to do with the deck.
use Rattle.std.specs.Prelude.{◌≡◌, ℕ, ◌<◌, ◌≤◌, List, All, Option, Some, None, Result, IfOk, IfErr, length}
use Rattle.unit_sets.specs.{CutOrder.weight, CutOrder.weight_limit, declared.refusal.ListEnd.ListEnd}
use Rattle.unit_sets.specs.declared.refusal.ListEnd.TheVariants as list
use Rattle.fault_definitions.specs.{Tree.FaultTree, Tree.IsUnitOf, Cut.IsCutList}
use Rattle.cutset_lists.specs.Generation.{HasHeavyCutList}
use Rattle.cut_sequences.specs.Orders.{order_limit, order_lists, order_total}
use Rattle.crew_script.specs.declared.dockets.Crew.{Crew}
use Rattle.board_words.specs.declared.command.Command.{Command}
use Rattle.board_report.specs.{CheckText.check_text, PrintText.print_text, Refusals.fault_line, Refusals.notice_line}
use Rattle.board_report.specs.{SummaryText.summary_text}
use Rattle.cut_texts.specs.{CutsText.cuts_text, CutsText.listed_with, DiagramText.member_count, DiagramText.sizes_text}
use Rattle.cut_texts.specs.{OrdersOfUnits.AreOrdersOf, UnitTexts.AreTextsOf}
use Rattle.board_report.specs.declared.notice.Notice.TheVariants as notice
use Rattle.outage_engine.specs.{declared.status.Status.Status, declared.status.Method.Method}
use Rattle.outage_engine.specs.{declared.status.Method.TheVariants.Plain, declared.listing.Listing.Listing}
use Rattle.outage_engine.specs.{declared.sizes.Counts.Counts, declared.summary.Summary.Summary}
use Rattle.outage_engine.specs.{declared.answer.Answer.Answer, declared.refusal.Refusal.Refusal}
use Rattle.outage_engine.specs.{declared.refusal.RunEnd.RunEnd, Store.AreNodesOf, Store.method_by, StoreAfter.BearsOut}
use Rattle.outage_engine.specs.{StoreAfter.IsLeftBy}
use Rattle.outage_engine.specs.declared.status.Status.TheVariants as status
use Rattle.outage_engine.specs.declared.answer.Answer.TheVariants.{Cuts, Diagram, Checked, Printed, Made, Summed}
use Rattle.outage_engine.specs.declared.answer.Answer.TheVariants.{Help, Refused}
use Rattle.outage_engine.specs.declared.refusal.Refusal.TheVariants.{Usage, ReadFault, TooLong, Fault, ListLimit}
use Rattle.outage_engine.specs.declared.refusal.Refusal.TheVariants.{OrderLimit}
use Rattle.outage_engine.specs.declared.refusal.RunEnd.TheVariants as run
use Rattle.deck_reading.specs.{declared.deck.CrewPart.CrewPart, Faults.IsDeckFault}
use Rattle.outage_engine.specs.Finding.{Finds, Found, Faulty, TooHeavy, TooManyOrders, Wants}
use Rattle.outage_engine.specs.Gives.{IsBeyond, IsMethodOf, IsTextOf, OfDeckOr, OfInput, own_deck, wants_of}
use Rattle.zdd_shared_table.specs.Seats.{Seated}

-- ---- an answer and its text

-- the status of a run that ends with a refusal
abbrev pub refusal_status : Refusal → Status
refusal_status Usage = status.Usage
refusal_status ReadFault = status.ReadFault
refusal_status TooLong = status.TooLong
refusal_status (Fault fault) = status.Refused fault
refusal_status ListLimit = status.ListLimit
refusal_status OrderLimit = status.OrderLimit

-- the line that a refusal writes
abbrev pub refusal_line : Refusal → List ℕ
refusal_line Usage = notice_line notice.Usage
refusal_line ReadFault = notice_line notice.ReadFault
refusal_line TooLong = notice_line notice.TooLong
refusal_line (Fault fault) = fault_line fault
refusal_line ListLimit = notice_line notice.ListLimit
refusal_line OrderLimit = notice_line notice.OrderLimit

-- the status of an answer once it is written: a refusal's own, else done, with how cut sets were found, if they were
abbrev pub status_of : Answer → Status
status_of (Cuts listing) = status.Done (method_by listing.root)
status_of (Diagram sizes) = status.Done (method_by sizes.counts.nodes)
status_of (Checked deck) = status.Done Plain
status_of (Printed tree) = status.Done Plain
status_of (Made deck) = status.Done Plain
status_of (Summed summary) = status.Done (method_by summary.listing.root)
status_of Help = status.Done Plain
status_of (Refused refusal) = refusal_status refusal

-- the text of `cuts` for a listing: its tree, and its cut sets with their failing orders
abbrev pub listing_text : Listing → List ℕ
listing_text listing = cuts_text listing.tree (listed_with listing.cuts listing.orders)

-- the text of `make` for a summary: what its made deck has, and what came of the requests on its board
abbrev pub summed_text : Summary → List ℕ
summed_text summary = summary_text summary.number summary.listing.tree summary.listing.orders summary.board

-- what is written for an answer: the text of its command, or the refusal's line
abbrev pub text_of : Answer → List ℕ
text_of (Cuts listing) = listing_text listing
text_of (Diagram sizes) = sizes_text sizes.tree sizes.counts.cuts sizes.counts.members sizes.counts.nodes
text_of (Checked deck) = check_text deck.tree deck.crews
text_of (Printed tree) = print_text tree
text_of (Made deck) = deck
text_of (Summed summary) = summed_text summary
text_of Help = notice_line notice.Usage
text_of (Refused refusal) = refusal_line refusal

-- its cut sets and their orders are of units of its tree, of which it has the texts, so that it can be written
abbrev pub IsOfUnits : Listing → Type 0
IsOfUnits listing =
    All (All (IsUnitOf listing.tree)) listing.cuts × AreOrdersOf listing.tree listing.cuts listing.orders
    × AreTextsOf listing.tree listing.texts

-- the orders of a summary were made for the cut list of its board
abbrev pub HasOrders : Summary → Type 0
HasOrders summary = AreOrdersOf summary.listing.tree summary.board.deck.opening.cuts summary.listing.orders

-- an answer can be written: a listing is of its tree's units and has their texts; a summary has orders for its cut list
abbrev pub IsWritable : Answer → Type 0
IsWritable (Cuts listing) = IsOfUnits listing
IsWritable (Summed summary) = HasOrders summary
IsWritable _ = Unit {0}

-- ---- why there is no answer

-- a refusal has this cause; want of memory is free
abbrev pub IfRefused : (Refusal → Type 0) → RunEnd → Type 0
IfRefused P (run.Refused refusal) = P refusal
IfRefused P run.NoMemory = Unit {0}

-- Why a command that wants this is refused, for its own deck where it makes one, and else for the input that the source
-- held, of which it held a rest afterwards. The source's faults rose in this sense.
abbrev pub IsRefusalFor : Option (List ℕ) → Wants → Option (List ℕ) → Option (List ℕ) → Type 0 → Refusal → Type 0
IsRefusalFor own wants held left rose ReadFault = (own ≡ None) × rose
IsRefusalFor own wants held left rose TooLong = (own ≡ None) × IsBeyond held left
IsRefusalFor own wants held left rose (Fault fault) = OfDeckOr own held left (λ bytes. Finds wants bytes (Faulty fault))
IsRefusalFor own wants held left rose ListLimit = OfDeckOr own held left (λ bytes. Finds wants bytes TooHeavy)
IsRefusalFor own wants held left rose OrderLimit = OfDeckOr own held left (λ bytes. Finds wants bytes TooManyOrders)
IsRefusalFor own wants held left rose Usage = ⊥

-- the deck has this fault, as the crew part is taken
abbrev pub IsFaultOfDeck : CrewPart → List ℕ → Refusal → Type 0
IsFaultOfDeck part bytes (Fault fault) = IsDeckFault part bytes fault
IsFaultOfDeck part bytes _ = ⊥

-- why no deck is read
abbrev pub IsReadRefusal : CrewPart → Option (List ℕ) → Option (List ℕ) → Type 0 → Refusal → Type 0
IsReadRefusal part held left rose ReadFault = rose
IsReadRefusal part held left rose TooLong = IsBeyond held left
IsReadRefusal part held left rose (Fault fault) = OfInput held left (λ bytes. IsDeckFault part bytes fault)
IsReadRefusal part held left rose ListLimit = ⊥
IsReadRefusal part held left rose OrderLimit = ⊥
IsReadRefusal part held left rose Usage = ⊥

-- ---- what came of a command

-- the answer to a command, by one of its methods, which the seat bears out
pub record IsAnswerTo (command : Command) (held left : Option (List ℕ)) (before after : Seated)
    (answer : Answer) : Type 0 where
  pub method : Method
  pub is_done : status_of answer ≡ status.Done method
  pub of_command : IsMethodOf command method
  pub text : IsTextOf command method held left (text_of answer)
  pub writable : IsWritable answer
  pub bears : BearsOut (own_deck (Some command)) held left before after (status.Done method)

-- why a command is refused
abbrev pub IsRefusalOf : Command → Option (List ℕ) → Option (List ℕ) → Type 0 → Refusal → Type 0
IsRefusalOf command held left rose refusal =
    (wants : Wants) × (wants_of (Some command) ≡ Some wants)
    × IsRefusalFor (own_deck (Some command)) wants held left rose refusal

-- what came of a command: its answer, or why it is refused, and the seat as it is left
pub record HasCome (command : Command) (held left : Option (List ℕ)) (rose : Type 0) (before after : Seated)
    (result : Result Answer RunEnd) : Type 0 where
  pub answer : IfOk result (IsAnswerTo command held left before after)
  pub refusal : IfErr result (IfRefused (IsRefusalOf command held left rose))
  pub seat : IsLeftBy (own_deck (Some command)) held left before after

-- the command reads its input: it wants a deck, and makes none itself
abbrev pub IsReading : Command → Type 0
IsReading command = (wants : Wants) × (wants_of (Some command) ≡ Some wants) × (own_deck (Some command) ≡ None)

-- ---- what the cut sets of a tree give

-- the cut list of a tree, within the limit of its weight
pub record IsListWithin (tree : FaultTree) (cuts : List (List ℕ)) : Type 0 where
  pub all : IsCutList tree cuts
  pub light : weight cuts ≤ weight_limit

-- the cut list of a tree and the failing orders of the sets of at most so many members, both within their limits, and
-- the texts of its units
pub record IsListingOf (most : ℕ) (tree : FaultTree) (listing : Listing) : Type 0 where
  pub of_tree : listing.tree ≡ tree
  pub list : IsListWithin tree listing.cuts
  pub orders : listing.orders ≡ order_lists tree listing.cuts most
  pub few : order_total listing.orders ≤ order_limit
  pub units : IsOfUnits listing

-- a limit is passed
abbrev pub IsLimitOf : ℕ → FaultTree → Refusal → Type 0
IsLimitOf most tree ListLimit = HasHeavyCutList tree
IsLimitOf most tree OrderLimit =
    (cuts : List (List ℕ)) × IsCutList tree cuts × (weight cuts ≤ weight_limit)
    × (order_limit < order_total (order_lists tree cuts most))
IsLimitOf most tree _ = ⊥

-- so many cut sets has a tree, with so many members in all, and their list is within its limit; so many nodes has their
-- family, where that is known
pub record AreCountsOf (tree : FaultTree) (counts : Counts) : Type 0 where
  pub list : List (List ℕ)
  pub within : IsListWithin tree list
  pub counted : counts.cuts ≡ length list
  pub summed : counts.members ≡ member_count list
  pub nodes : AreNodesOf tree counts.nodes

-- the limit of weight is passed
abbrev pub IsWeightLimitOf : FaultTree → Refusal → Type 0
IsWeightLimitOf tree ListLimit = HasHeavyCutList tree
IsWeightLimitOf tree _ = ⊥

-- how a run ends whose cut list is not to be had
abbrev pub end_without : ListEnd → RunEnd
end_without list.ListLimit = run.Refused ListLimit
end_without list.NoMemory = run.NoMemory

-- what was found, as the deck's tree, cut list and crews
abbrev pub found_in : Listing → Option (List Crew) → Found
found_in listing crews = record { tree = listing.tree; cuts = listing.cuts; crews = crews }
