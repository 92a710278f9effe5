-- What a run did: it gave up for want of memory and wrote nothing, or it wrote the text of its status, all of it or a
-- front. The clauses of a run, which its functions share, are named here.
use Rattle.std.specs.Prelude.{◌≡◌, ◌⊎◌, ℕ, ◌<◌, List, length, Option, Some, None}
use Rattle.std.specs.Io.KnownBytes.{Appends}
use Rattle.event_counts.specs.Count.{Rose}
use Rattle.edge_io.specs.{Writing.TakesFront, declared.reading.TheConstants.INPUT_LIMIT}
use Rattle.board_words.specs.{Command.command_of, declared.command.Command.Command}
use Rattle.board_words.specs.declared.command.Command.TheVariants.{Cuts, Board, Check, Print, Diagram, Make, Help}
use Rattle.board_words.specs.declared.command.Show.TheVariants as shown
use Rattle.tree_maker.specs.MadeDeck.{made_deck}
use Rattle.board_report.specs.Refusals.{fault_line, notice_line}
use Rattle.deck_reading.specs.declared.fault.DeckFault.{DeckFault}
use Rattle.board_report.specs.declared.notice.Notice.TheVariants as notice
use Rattle.outage_engine.specs.{declared.status.Method.Method, declared.status.Status.Status, Safety.IsSafeText}
use Rattle.outage_engine.specs.declared.status.Status.TheVariants.{Done, Refused, ListLimit, OrderLimit, Usage}
use Rattle.outage_engine.specs.declared.status.Status.TheVariants.{ReadFault, TooLong, WriteFault, NoMemory}
use Rattle.outage_engine.specs.Finding.{Finding, Finds, Faulty, TooHeavy, TooManyOrders, Ready, Wants}
use Rattle.outage_engine.specs.Gives.{AreReading, Gives, IsBeyond, IsMethodOf, IsRunDeck, OfDeck, OfInput, wanted}
use Rattle.outage_engine.specs.Texts.{IsBoardText, IsCheckText, IsCutsText, IsDiagramText, IsPrintText}
use Rattle.outage_engine.specs.Texts.{IsSummaryText}

-- a front of a text was taken, and the sink failed
pub record WritesFront {K : Type 0} (taken : K → Option (List ℕ)) (faults : K → ℕ) (old new : K)
    (text : List ℕ) : Type 0 where
  pub rose : Rose (faults old) (faults new)
  pub left : List ℕ
  pub front : TakesFront taken old new text left

-- the text of a status was written, or a front of it by a run that ends with WriteFault
abbrev pub Tells : {K : Type 0} → (K → Option (List ℕ)) → (K → ℕ) → K → K → Status → List ℕ → Status → Type 0
Tells taken faults old new status text result =
    ((result ≡ status) × Appends (taken old) (taken new) text)
    ⊎ ((result ≡ WriteFault) × WritesFront taken faults old new text)

-- the run told a text that the words and the input give
pub record Told {K : Type 0} (words : List (List ℕ)) (held left : Option (List ℕ)) (rose : Type 0)
    (taken : K → Option (List ℕ)) (faults : K → ℕ) (old new : K) (result : Status) : Type 0 where
  pub status : Status
  pub text : List ℕ
  pub gives : Gives words held left rose status text
  pub told : Tells taken faults old new status text result

-- the run gave up for want of memory and wrote nothing, or it told a text that the words and the input give
abbrev pub Runs : {K : Type 0} → List (List ℕ) → Option (List ℕ) → Option (List ℕ) → Type 0 → (K → Option (List ℕ))
    → (K → ℕ) → K → K → Status → Type 0
Runs words held left rose taken faults old new result =
    ((result ≡ NoMemory) × (new ≡ old)) ⊎ Told words held left rose taken faults old new result

-- ---- which words

-- the words are a command `board`
abbrev pub IsBoard : List (List ℕ) → Type 0
IsBoard words = (margin : ℕ) × (most : ℕ) × (workers : ℕ) × (command_of words ≡ Some (Board margin most workers))

-- the words are no command `board`
abbrev pub IsNoBoard : List (List ℕ) → Type 0
IsNoBoard words = (margin most workers : ℕ) → ¬ (command_of words ≡ Some (Board margin most workers))

-- a command other than `board`
abbrev pub IsOther : Command → Type 0
IsOther command = (margin most workers : ℕ) → ¬ (command ≡ Board margin most workers)

-- ---- the clauses: what was written where the run ends well

-- A text of which this holds was added to what the sink took. Of a sink that does not tell it says nothing (`Appends`
-- of the library).
abbrev pub Writes : {K : Type 0} → (K → Option (List ℕ)) → K → K → (List ℕ → Type 0) → Type 0
Writes taken old new P = (text : List ℕ) × P text × Appends (taken old) (taken new) text

-- the status is Done, whatever the method
abbrev pub IsDone : Status → Type 0
IsDone result = (method : Method) × (result ≡ Done method)

-- only words that are a command are done, by a method of the command
abbrev pub IsOfCommand : List (List ℕ) → Status → Type 0
IsOfCommand words result =
    (method : Method) → result ≡ Done method → (command : Command) × (command_of words ≡ Some command)
    × IsMethodOf command method

-- `cuts`, where done, wrote the cut list of the input's tree with the failing orders of the sets that are small enough
abbrev pub PrintsCuts : {K : Type 0} → List (List ℕ) → Option (List ℕ) → Option (List ℕ) → (K → Option (List ℕ)) → K → K
    → Status → Type 0
PrintsCuts words held left taken old new result =
    (most workers : ℕ) → command_of words ≡ Some (Cuts most workers) → IsDone result
    → Writes taken old new (λ text. OfInput held left (λ bytes. IsCutsText most bytes text))

-- `board`, where done, wrote the text of `cuts`, and a board with a history that is legal and whole for the input
abbrev pub PrintsBoard : {K : Type 0} → List (List ℕ) → Option (List ℕ) → Option (List ℕ) → (K → Option (List ℕ)) → K
    → K → Status → Type 0
PrintsBoard words held left taken old new result =
    (margin most workers : ℕ) → command_of words ≡ Some (Board margin most workers) → IsDone result
    → Writes taken old new (λ text. OfInput held left (λ bytes. IsBoardText margin most bytes text))

-- `board`, where done, let no margin be broken: after each granted take and each granted margin of the history that was
-- printed the tree bears what the margin says
abbrev pub PrintsSafely : {K : Type 0} → List (List ℕ) → Option (List ℕ) → Option (List ℕ) → (K → Option (List ℕ)) → K
    → K → Status → Type 0
PrintsSafely words held left taken old new result =
    (margin most workers : ℕ) → command_of words ≡ Some (Board margin most workers) → IsDone result
    → Writes taken old new (λ text. OfInput held left (λ bytes. IsSafeText margin most bytes text))

-- `check`, where done, wrote how large the input's tree is and, where it has a crew part, how many crews and requests
abbrev pub PrintsCheck : {K : Type 0} → List (List ℕ) → Option (List ℕ) → Option (List ℕ) → (K → Option (List ℕ)) → K
    → K → Status → Type 0
PrintsCheck words held left taken old new result =
    command_of words ≡ Some Check → IsDone result → Writes taken old new
    (λ text. OfInput held left (λ bytes. IsCheckText bytes text))

-- `print`, where done, wrote the input's tree in the grammar of decks
abbrev pub PrintsTree : {K : Type 0} → List (List ℕ) → Option (List ℕ) → Option (List ℕ) → (K → Option (List ℕ)) → K → K
    → Status → Type 0
PrintsTree words held left taken old new result =
    command_of words ≡ Some Print → IsDone result → Writes taken old new
    (λ text. OfInput held left (λ bytes. IsPrintText bytes text))

-- `diagram`, where done, wrote its text, without a line of nodes exactly where the cut sets were found by lists
abbrev pub PrintsDiagram : {K : Type 0} → List (List ℕ) → Option (List ℕ) → Option (List ℕ) → (K → Option (List ℕ)) → K
    → K → Status → Type 0
PrintsDiagram words held left taken old new result =
    (workers : ℕ) (method : Method) → command_of words ≡ Some (Diagram workers) → result ≡ Done method
    → Writes taken old new (λ text. OfInput held left (λ bytes. IsDiagramText method bytes text))

-- exactly the made deck of the number
abbrev pub PrintsMade : {K : Type 0} → List (List ℕ) → (K → Option (List ℕ)) → K → K → Status → Type 0
PrintsMade words taken old new result =
    (number : ℕ) → command_of words ≡ Some (Make number shown.Deck) → IsDone result
    → Appends (taken old) (taken new) (made_deck number)

-- exactly the summary of the made deck of the number
abbrev pub PrintsSummary : {K : Type 0} → List (List ℕ) → (K → Option (List ℕ)) → K → K → Status → Type 0
PrintsSummary words taken old new result =
    (number : ℕ) → command_of words ≡ Some (Make number shown.Summary) → IsDone result
    → Writes taken old new (IsSummaryText number)

-- `help`, where done, wrote the usage line
abbrev pub PrintsHelp : {K : Type 0} → List (List ℕ) → (K → Option (List ℕ)) → K → K → Status → Type 0
PrintsHelp words taken old new result =
    command_of words ≡ Some Help → IsDone result → Appends (taken old) (taken new) (notice_line notice.Usage)

-- ---- the clauses: each refusal has its cause, and its line was written

-- at Usage the words are no command, and the usage line was written
abbrev pub RefusesWords : {K : Type 0} → List (List ℕ) → (K → Option (List ℕ)) → K → K → Status → Type 0
RefusesWords words taken old new result =
    result ≡ Usage → (command_of words ≡ None) × Appends (taken old) (taken new) (notice_line notice.Usage)

-- what is found for the command in the deck that the run is about
abbrev pub HasFound : List (List ℕ) → Option (List ℕ) → Option (List ℕ) → Finding → Type 0
HasFound words held left finding =
    (wants : Wants) × (wanted words ≡ Some wants) × OfDeck words held left (λ bytes. Finds wants bytes finding)

-- at Refused the deck that the run is about has this fault first, and the line of the fault was written
abbrev pub RefusesDeck : {K : Type 0} → List (List ℕ) → Option (List ℕ) → Option (List ℕ) → (K → Option (List ℕ)) → K
    → K → Status → Type 0
RefusesDeck words held left taken old new result =
    (fault : DeckFault) → result ≡ Refused fault → HasFound words held left (Faulty fault)
    × Appends (taken old) (taken new) (fault_line fault)

-- at ListLimit the cut list of the deck that the run is about is too heavy, and the line of that limit was written
abbrev pub RefusesWeight : {K : Type 0} → List (List ℕ) → Option (List ℕ) → Option (List ℕ) → (K → Option (List ℕ)) → K
    → K → Status → Type 0
RefusesWeight words held left taken old new result =
    result ≡ ListLimit → HasFound words held left TooHeavy
    × Appends (taken old) (taken new) (notice_line notice.ListLimit)

-- at OrderLimit the small enough cut sets of the run's deck have too many failing orders; that limit's line was written
abbrev pub RefusesOrders : {K : Type 0} → List (List ℕ) → Option (List ℕ) → Option (List ℕ) → (K → Option (List ℕ)) → K
    → K → Status → Type 0
RefusesOrders words held left taken old new result =
    result ≡ OrderLimit → HasFound words held left TooManyOrders
    × Appends (taken old) (taken new) (notice_line notice.OrderLimit)

-- at TooLong the command reads the input, which is longer than an input may be, and the line of that was written
abbrev pub RefusesLength : {K : Type 0} → List (List ℕ) → Option (List ℕ) → Option (List ℕ) → (K → Option (List ℕ)) → K
    → K → Status → Type 0
RefusesLength words held left taken old new result =
    result ≡ TooLong → AreReading words × IsBeyond held left
    × Appends (taken old) (taken new) (notice_line notice.TooLong)

-- at ReadFault the command reads the input, the source's faults rose, and the line of that was written
abbrev pub FailsToRead : {K : Type 0} → List (List ℕ) → Type 0 → (K → Option (List ℕ)) → K → K → Status → Type 0
FailsToRead words rose taken old new result =
    result ≡ ReadFault → AreReading words × rose × Appends (taken old) (taken new) (notice_line notice.ReadFault)

-- at WriteFault the sink took a front of the text of the status that came
abbrev pub WritesFrontOfText : {K : Type 0} → List (List ℕ) → Option (List ℕ) → Option (List ℕ) → Type 0
    → (K → Option (List ℕ)) → (K → ℕ) → K → K → Status → Type 0
WritesFrontOfText words held left rose taken faults old new result =
    result ≡ WriteFault → (status : Status) × (text : List ℕ) × Gives words held left rose status text
    × WritesFront taken faults old new text

-- ---- the clauses: the other way round

-- the run ended otherwise: by a fault of the source or the sink, of which other clauses name the cause, or for want of
-- memory, which is free: no clause names a cause for it
abbrev pub Fails : Status → Type 0
Fails result = (result ≡ ReadFault) ⊎ ((result ≡ WriteFault) ⊎ (result ≡ NoMemory))

-- the status that goes with what is found
abbrev pub Answers : Finding → Status → Type 0
Answers (Faulty fault) result = result ≡ Refused fault
Answers TooHeavy result = result ≡ ListLimit
Answers TooManyOrders result = result ≡ OrderLimit
Answers (Ready found) result = IsDone result

-- what is found in a deck is answered, as long as nothing fails and memory is found
abbrev pub AnswersDeck : List (List ℕ) → Option (List ℕ) → Status → Type 0
AnswersDeck words held result =
    (bytes : List ℕ) (wants : Wants) (finding : Finding) → IsRunDeck words held bytes → wanted words ≡ Some wants
    → Finds wants bytes finding
    → Answers finding result ⊎ Fails result

-- so is an input that is too long
abbrev pub AnswersLength : List (List ℕ) → Option (List ℕ) → Status → Type 0
AnswersLength words held result =
    (bytes : List ℕ) → held ≡ Some bytes → INPUT_LIMIT < length bytes → AreReading words
    → (result ≡ TooLong) ⊎ Fails result

-- and words that ask for no deck
abbrev pub AnswersWords : List (List ℕ) → Status → Type 0
AnswersWords words result =
    (command_of words ≡ None → (result ≡ Usage) ⊎ Fails result)
    × (command_of words ≡ Some Help → IsDone result ⊎ Fails result)
    × ((number : ℕ) → command_of words ≡ Some (Make number shown.Deck) → IsDone result ⊎ Fails result)
