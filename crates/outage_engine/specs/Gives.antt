-- Which status comes with which text: one relation for all commands.
use Rattle.std.specs.Prelude.{◌≡◌, ℕ, ◌+◌, ◌<◌, ◌≤◌, List, [], length, Option, Some, None}
use Rattle.edge_io.specs.{Reading.IfTold, declared.reading.TheConstants.INPUT_LIMIT}
use Rattle.board_words.specs.{Command.command_of, declared.command.Command.Command}
use Rattle.board_words.specs.declared.command.Command.TheVariants.{Cuts, Board, Check, Print, Diagram, Make, Help}
use Rattle.board_words.specs.declared.command.Show.TheVariants as shown
use Rattle.tree_maker.specs.MadeDeck.{made_deck}
use Rattle.board_report.specs.Refusals.{fault_line, notice_line}
use Rattle.deck_reading.specs.declared.fault.DeckFault.{DeckFault}
use Rattle.board_report.specs.declared.notice.Notice.TheVariants as notice
use Rattle.outage_engine.specs.declared.status.Method.{Method}
use Rattle.outage_engine.specs.declared.status.Status.{Status}
use Rattle.outage_engine.specs.declared.status.Status.TheVariants.{Done, Refused, ListLimit, OrderLimit, Usage}
use Rattle.outage_engine.specs.declared.status.Status.TheVariants.{ReadFault, TooLong}
use Rattle.outage_engine.specs.declared.status.Method.TheVariants.{Plain, Lists}
use Rattle.outage_engine.specs.declared.status.Method.TheVariants as way
use Rattle.outage_engine.specs.Finding.{Finds, Faulty, TooHeavy, TooManyOrders, Wants}
use Rattle.outage_engine.specs.Texts.{IsCheckText, IsCutsText, IsDiagramText, IsPrintText, for_board, for_check}
use Rattle.outage_engine.specs.Texts.{IsSummaryText, for_summary}
use Rattle.outage_engine.specs.Texts.{for_cuts, for_diagram, for_print}
use Rattle.outage_engine.specs.Safety.{IsSafeText}

-- ---- words

-- what a command wants of a deck, where it is about one
abbrev pub wants_of : Option Command → Option Wants
wants_of (Some (Cuts most workers)) = Some (for_cuts most)
wants_of (Some (Board margin most workers)) = Some (for_board most)
wants_of (Some Check) = Some for_check
wants_of (Some Print) = Some for_print
wants_of (Some Help) = None
wants_of (Some (Diagram workers)) = Some for_diagram
wants_of (Some (Make number shown.Deck)) = None
wants_of (Some (Make number shown.Summary)) = Some for_summary
wants_of None = None

-- what the words want of a deck
abbrev pub wanted : List (List ℕ) → Option Wants
wanted words = wants_of (command_of words)

-- ---- the input

-- a fact of the bytes of an input that was read to its end and is not too long, where the source tells them
abbrev pub OfInput : Option (List ℕ) → Option (List ℕ) → (List ℕ → Type 0) → Type 0
OfInput held left P = IfTold held left (λ bytes rest. (rest ≡ []) × (length bytes ≤ INPUT_LIMIT) × P bytes)

-- more bytes were taken than an input may have
abbrev pub IsBeyond : Option (List ℕ) → Option (List ℕ) → Type 0
IsBeyond held left = IfTold held left (λ bytes rest. INPUT_LIMIT + length rest < length bytes)

-- ---- the deck that a run is about

-- the deck that a command makes itself, where it is about such a one
abbrev pub own_deck : Option Command → Option (List ℕ)
own_deck (Some (Make number shown.Summary)) = Some (made_deck number)
own_deck _ = None

-- a fact of this deck where there is one, and else of the input
abbrev pub OfDeckOr : Option (List ℕ) → Option (List ℕ) → Option (List ℕ) → (List ℕ → Type 0) → Type 0
OfDeckOr (Some own) held left P = P own
OfDeckOr None held left P = OfInput held left P

-- a fact of the deck that a run is about: the one that its command makes itself, or else the input
abbrev pub OfDeck : List (List ℕ) → Option (List ℕ) → Option (List ℕ) → (List ℕ → Type 0) → Type 0
OfDeck words held left P = OfDeckOr (own_deck (command_of words)) held left P

-- the bytes are this deck where there is one, and else an input that is not too long
abbrev pub IsDeckOr : Option (List ℕ) → Option (List ℕ) → List ℕ → Type 0
IsDeckOr (Some own) held bytes = own ≡ bytes
IsDeckOr None held bytes = (held ≡ Some bytes) × (length bytes ≤ INPUT_LIMIT)

-- the bytes are the deck that a run is about
abbrev pub IsRunDeck : List (List ℕ) → Option (List ℕ) → List ℕ → Type 0
IsRunDeck words held bytes = IsDeckOr (own_deck (command_of words)) held bytes

-- the words are a command that reads its input: it wants a deck, and makes none itself
abbrev pub AreReading : List (List ℕ) → Type 0
AreReading words = (wants : Wants) × (wanted words ≡ Some wants) × (own_deck (command_of words) ≡ None)

-- ---- what ends well

-- a method that finds cut sets
abbrev pub FindsSets : Method → Type 0
FindsSets Plain = ⊥
FindsSets Lists = Unit {0}
FindsSets way.Diagram = Unit {0}

-- how a command finds the cut sets, if it does
abbrev pub IsMethodOf : Command → Method → Type 0
IsMethodOf (Cuts most workers) method = FindsSets method
IsMethodOf (Board margin most workers) method = FindsSets method
IsMethodOf Check method = method ≡ Plain
IsMethodOf Print method = method ≡ Plain
IsMethodOf Help method = method ≡ Plain
IsMethodOf (Diagram workers) method = FindsSets method
IsMethodOf (Make number shown.Deck) method = method ≡ Plain
IsMethodOf (Make number shown.Summary) method = FindsSets method

-- The text of a command that is done by this method, for the input that the source held, of which it held a rest
-- afterwards. That of `board` is `IsSafeText`: what `IsBoardText` says, and that its history is safe. One history has
-- both.
abbrev pub IsTextOf : Command → Method → Option (List ℕ) → Option (List ℕ) → List ℕ → Type 0
IsTextOf (Cuts most workers) method held left text = OfInput held left (λ bytes. IsCutsText most bytes text)
IsTextOf (Board margin most workers) method held left text =
    OfInput held left (λ bytes. IsSafeText margin most bytes text)
IsTextOf Check method held left text = OfInput held left (λ bytes. IsCheckText bytes text)
IsTextOf Print method held left text = OfInput held left (λ bytes. IsPrintText bytes text)
IsTextOf Help method held left text = text ≡ notice_line notice.Usage
IsTextOf (Diagram workers) method held left text = OfInput held left (λ bytes. IsDiagramText method bytes text)
IsTextOf (Make number shown.Deck) method held left text = text ≡ made_deck number
IsTextOf (Make number shown.Summary) method held left text = IsSummaryText number text

-- ---- the relation

-- What the words give, and the input that the source held, of which it held a rest afterwards. The source's faults rose
-- in this sense.
pub data Gives (words : List (List ℕ)) (held left : Option (List ℕ)) (rose : Type 0) (status : Status)
    (text : List ℕ) : Type 0 where
  done : (command : Command) (method : Method) → command_of words ≡ Some command → IsMethodOf command method
      → IsTextOf command method held left text → status ≡ Done method → Gives words held left rose status text
  usage : command_of words ≡ None → status ≡ Usage → text ≡ notice_line notice.Usage
      → Gives words held left rose status text
  read_fault : AreReading words → rose → status ≡ ReadFault → text ≡ notice_line notice.ReadFault
      → Gives words held left rose status text
  too_long : AreReading words → IsBeyond held left → status ≡ TooLong → text ≡ notice_line notice.TooLong
      → Gives words held left rose status text
  refused : (wants : Wants) (fault : DeckFault) → wanted words ≡ Some wants
      → OfDeck words held left (λ bytes. Finds wants bytes (Faulty fault))
      → status ≡ Refused fault → text ≡ fault_line fault → Gives words held left rose status text
  list_limit : (wants : Wants) → wanted words ≡ Some wants
      → OfDeck words held left (λ bytes. Finds wants bytes TooHeavy)
      → status ≡ ListLimit → text ≡ notice_line notice.ListLimit → Gives words held left rose status text
  order_limit : (wants : Wants) → wanted words ≡ Some wants
      → OfDeck words held left (λ bytes. Finds wants bytes TooManyOrders)
      → status ≡ OrderLimit → text ≡ notice_line notice.OrderLimit → Gives words held left rose status text
