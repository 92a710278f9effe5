-- The clauses of a run, each read from the relation that the run keeps.
use Rattle.std.specs.Prelude.{◌≡◌, ◌⊎◌, ℕ, ◌<◌, ◌≤◌, List, length, Option, Some, None}
use Rattle.std.specs.Io.KnownBytes.{Appends}
use Rattle.std.proofs.Common.{sym, subst, ◌∙◌, refl, inl, inr, arith}
use Rattle.edge_io.specs.declared.reading.TheConstants.{INPUT_LIMIT}
use Rattle.board_words.specs.{Command.command_of, declared.command.Command.Command}
use Rattle.tree_maker.specs.MadeDeck.{made_deck}
use Rattle.board_words.specs.declared.command.Command.TheVariants.{Cuts, Board, Check, Print, Diagram, Make, Help}
use Rattle.board_words.specs.declared.command.Show.TheVariants as shown
use Rattle.board_report.specs.Refusals.{fault_line, notice_line}
use Rattle.board_report.specs.declared.notice.Notice.TheVariants as notice
use Rattle.outage_engine.specs.{declared.status.Status.Status, declared.status.Method.Method, Safety.IsSafeText}
use Rattle.outage_engine.specs.declared.status.Status.TheVariants.{Done, Refused, ListLimit, OrderLimit, Usage}
use Rattle.outage_engine.specs.declared.status.Status.TheVariants.{ReadFault, TooLong, WriteFault, NoMemory}
use Rattle.outage_engine.specs.Finding.{Finding, Finds, Found, Faulty, TooHeavy, TooManyOrders, Ready, Wants}
use Rattle.outage_engine.specs.Gives.{AreReading, Gives, IsBeyond, IsDeckOr, IsMethodOf, IsRunDeck, IsTextOf, OfDeck}
use Rattle.outage_engine.specs.Gives.{OfDeckOr, OfInput, done, own_deck, wanted, wants_of}
use Rattle.outage_engine.specs.Gives.{usage, read_fault, too_long, refused, list_limit, order_limit}
use Rattle.outage_engine.specs.Runs as runs
use Rattle.outage_engine.specs.Runs.{Answers, Fails, HasFound, IsDone, Runs}
use Rattle.outage_engine.specs.Texts.{IsBoardText, IsCheckText, IsCutsText, IsDiagramText, IsPrintText, for_board}
use Rattle.outage_engine.specs.Texts.{for_check, for_cuts, for_diagram, for_print, for_summary}
use Rattle.outage_engine.proofs.OneFinding.{one_finding}

-- ---- inputs

-- the facts of an input that is told
input : (bytes : List ℕ) (left : Option (List ℕ)) (P : List ℕ → Type 0) → OfInput (Some bytes) left P
    → (length bytes ≤ INPUT_LIMIT) × P bytes
input bytes None P fact = absurd fact
input bytes (Some rest) P fact = (fact.1, fact.2)

long_input : (bytes : List ℕ) (left : Option (List ℕ)) → IsBeyond (Some bytes) left → INPUT_LIMIT < length bytes
long_input bytes None fact = absurd fact
long_input bytes (Some rest) fact = omega (arith, fact)

not_short_and_long : {P : Type 0} (bytes : List ℕ) → length bytes ≤ INPUT_LIMIT → INPUT_LIMIT < length bytes → P
not_short_and_long bytes short long = absurd (omega (arith, short, long))

-- a fact of an input that holds of other facts too
pub of_input : (held left : Option (List ℕ)) (P Q : List ℕ → Type 0) → ((bytes : List ℕ) → P bytes → Q bytes)
    → OfInput held left P → OfInput held left Q
of_input None left P Q weaker fact = tt
of_input (Some bytes) None P Q weaker fact = absurd fact
of_input (Some bytes) (Some rest) P Q weaker fact = (fact.0, fact.1, weaker bytes fact.2)

-- the same of a deck
pub of_deck : (own held left : Option (List ℕ)) (P Q : List ℕ → Type 0) → ((bytes : List ℕ) → P bytes → Q bytes)
    → OfDeckOr own held left P → OfDeckOr own held left Q
of_deck None held left P Q weaker fact = of_input held left P Q weaker fact
of_deck (Some own) held left P Q weaker fact = weaker own fact

-- a fact of a deck holds of its bytes
fact_of_deck : (own held left : Option (List ℕ)) (P : List ℕ → Type 0) (bytes : List ℕ) → IsDeckOr own held bytes
    → OfDeckOr own held left P → P bytes
fact_of_deck (Some own) held left P bytes same fact = subst P same fact
fact_of_deck None held left P bytes (holds, short) fact =
    (input bytes left P (subst (λ h. OfInput h left P) holds fact)).1

plain_text : {margin most : ℕ} {bytes text : List ℕ} → IsSafeText margin most bytes text
    → IsBoardText margin most bytes text
plain_text is =
    record { found = is.found; finds = is.finds; history = is.history; of_deck = is.of_deck; is = is.is }

-- ---- words are of one kind

wanted_by : {P : Type 0} (words : List (List ℕ)) (wants : Wants) → wanted words ≡ Some wants → command_of words ≡ None
    → P
wanted_by words wants some none =
    let clash : wants_of None ≡ Some wants = subst (λ c. wants_of c ≡ Some wants) none some in absurd cc

wanted_by_other : {P : Type 0} (words : List (List ℕ)) (wants : Wants) (command : Command) → wanted words ≡ Some wants
    → command_of words ≡ Some command → wants_of (Some command) ≡ None → P
wanted_by_other words wants command some asks none =
    let clash : None ≡ Some wants = sym none ∙ subst (λ c. wants_of c ≡ Some wants) asks some in absurd cc

same_command : (words : List (List ℕ)) (one two : Command) → command_of words ≡ Some one → command_of words ≡ Some two
    → one ≡ two
same_command words one two at at' = let same : Some one ≡ Some two = sym at ∙ at' in cc

same_some : {one two : Wants} → Some one ≡ Some two → one ≡ two
same_some same = cc

same_wants : (words : List (List ℕ)) {one two : Wants} → wanted words ≡ Some one → wanted words ≡ Some two → one ≡ two
same_wants words {one} {two} at at' = let same : Some one ≡ Some two = sym at ∙ at' in cc

-- ---- what the relation says of each status

-- a text that ends well is that of the command
abbrev IsDoneText : List (List ℕ) → Option (List ℕ) → Option (List ℕ) → Method → List ℕ → Type 0
IsDoneText words held left method text =
    (command : Command) × (command_of words ≡ Some command) × IsMethodOf command method
    × IsTextOf command method held left text

abbrev Cause : List (List ℕ) → Option (List ℕ) → Option (List ℕ) → Type 0 → Status → List ℕ → Type 0
Cause words held left rose (Done method) text = IsDoneText words held left method text
Cause words held left rose (Refused fault) text = HasFound words held left (Faulty fault) × (text ≡ fault_line fault)
Cause words held left rose ListLimit text = HasFound words held left TooHeavy × (text ≡ notice_line notice.ListLimit)
Cause words held left rose OrderLimit text =
    HasFound words held left TooManyOrders × (text ≡ notice_line notice.OrderLimit)
Cause words held left rose Usage text = (command_of words ≡ None) × (text ≡ notice_line notice.Usage)
Cause words held left rose ReadFault text = AreReading words × rose × (text ≡ notice_line notice.ReadFault)
Cause words held left rose TooLong text = AreReading words × IsBeyond held left × (text ≡ notice_line notice.TooLong)
Cause words held left rose WriteFault text = ⊥
Cause words held left rose NoMemory text = ⊥

module _ (words : List (List ℕ)) (held left : Option (List ℕ)) (rose : Type 0) (text : List ℕ) where
  abbrev Caused : Status → Type 0
  Caused status = Cause words held left rose status text

  cause : {status : Status} → Gives words held left rose status text → Caused status
  cause (done command method at is_method is_text is) = subst Caused (sym is) (command, at, is_method, is_text)
  cause (usage none is line) = subst Caused (sym is) (none, line)
  cause (read_fault reading rises is line) = subst Caused (sym is) (reading, rises, line)
  cause (too_long reading beyond is line) = subst Caused (sym is) (reading, beyond, line)
  cause (refused wants fault at found is line) = subst Caused (sym is) ((wants, at, found), line)
  cause (list_limit wants at found is line) = subst Caused (sym is) ((wants, at, found), line)
  cause (order_limit wants at found is line) = subst Caused (sym is) ((wants, at, found), line)

  text_of_command : (method : Method) (command : Command) → command_of words ≡ Some command
      → IsDoneText words held left method text → IsTextOf command method held left text
  text_of_command method command asks (other, at, is_method, is_text) =
      subst (λ c. IsTextOf c method held left text) (same_command words other command at asks) is_text

-- ---- the status that is due

-- what the text of a command was found of
module _ (held left : Option (List ℕ)) (text : List ℕ) (wants : Wants) where
  abbrev IsReady : List ℕ → Type 0
  IsReady bytes = (found : Found) × Finds wants bytes (Ready found)

  ready_for : (command : Command) (method : Method) → wants_of (Some command) ≡ Some wants
      → IsTextOf command method held left text → OfDeckOr (own_deck (Some command)) held left IsReady
  ready_for (Cuts most workers) method at is_text =
      let same : for_cuts most ≡ wants = same_some at in
      of_input held left (λ b. IsCutsText most b text) IsReady
      (λ b whole. (whole.found, subst (λ w. Finds w b (Ready whole.found)) same whole.finds)) is_text
  ready_for (Board margin most workers) method at is_text =
      let same : for_board most ≡ wants = same_some at in
      of_input held left (λ b. IsSafeText margin most b text) IsReady
      (λ b whole. (whole.found, subst (λ w. Finds w b (Ready whole.found)) same whole.finds)) is_text
  ready_for Check method at is_text =
      let same : for_check ≡ wants = same_some at in
      of_input held left (λ b. IsCheckText b text) IsReady
      (λ b whole. (whole.found, subst (λ w. Finds w b (Ready whole.found)) same whole.finds)) is_text
  ready_for Print method at is_text =
      let same : for_print ≡ wants = same_some at in
      of_input held left (λ b. IsPrintText b text) IsReady
      (λ b whole. (whole.found, subst (λ w. Finds w b (Ready whole.found)) same whole.finds)) is_text
  ready_for Help method at is_text = absurd cc
  ready_for (Diagram workers) method at is_text =
      let same : for_diagram ≡ wants = same_some at in
      of_input held left (λ b. IsDiagramText method b text) IsReady
      (λ b whole. (whole.found, subst (λ w. Finds w b (Ready whole.found)) same whole.finds)) is_text
  ready_for (Make number shown.Deck) method at is_text = absurd cc
  ready_for (Make number shown.Summary) method at is_text =
      let same : for_summary ≡ wants = same_some at in
      (is_text.found, subst (λ w. Finds w (made_deck number) (Ready is_text.found)) same is_text.finds)

  -- of a run that is done
  ready_of : (words : List (List ℕ)) (method : Method) → wanted words ≡ Some wants
      → IsDoneText words held left method text → OfDeck words held left IsReady
  ready_of words method at (command, asks, is_method, is_text) =
      subst (λ c. OfDeckOr (own_deck c) held left IsReady) (sym asks)
      (ready_for command method (subst (λ c. wants_of c ≡ Some wants) asks at) is_text)

module _ (words : List (List ℕ)) (bytes : List ℕ) (held left : Option (List ℕ)) (rose : Type 0)
    (text : List ℕ) where
  -- of a deck, the status goes with its finding
  goes_with : IsRunDeck words held bytes → {wants : Wants} {finding : Finding} (other : Finding) (status : Status)
      → wanted words ≡ Some wants → Finds wants bytes finding → HasFound words held left other
      → (Answers other status) → Answers finding status
  goes_with deck {wants} {finding} other status at finds (wants', at', found) answers =
      let same : wants' ≡ wants = same_wants words at' at in
      let found' : Finds wants bytes other =
      subst (λ w. Finds w bytes other) same
      (fact_of_deck (own_deck (command_of words)) held left (λ b. Finds wants' b other) bytes deck found) in
      subst (λ f. Answers f status) (one_finding wants bytes other finding found' finds) answers

  deck_due : IsRunDeck words held bytes → {wants : Wants} {finding : Finding} → wanted words ≡ Some wants
      → Finds wants bytes finding
      → (status : Status) → Cause words held left rose status text → Answers finding status ⊎ Fails status
  deck_due deck {wants} {finding} at finds (Done method) is_done =
      let ready =
      fact_of_deck (own_deck (command_of words)) held left (IsReady held left text wants) bytes deck
      (ready_of held left text wants words method at is_done) in
      inl (subst (λ f. Answers f (Done method)) (one_finding wants bytes (Ready ready.0) finding ready.1 finds)
      (method, refl))
  deck_due deck at finds (Refused fault) (found, line) =
      inl (goes_with deck (Faulty fault) (Refused fault) at finds found refl)
  deck_due deck at finds ListLimit (found, line) = inl (goes_with deck TooHeavy ListLimit at finds found refl)
  deck_due deck at finds OrderLimit (found, line) = inl (goes_with deck TooManyOrders OrderLimit at finds found refl)
  deck_due deck {wants} at finds Usage (none, line) = wanted_by words wants at none
  deck_due deck at finds ReadFault failed = inr (inl refl)
  deck_due deck at finds TooLong (reading, beyond, line) =
      let whole : (held ≡ Some bytes) × (length bytes ≤ INPUT_LIMIT) =
      subst (λ own. IsDeckOr own held bytes) reading.2 deck in
      not_short_and_long bytes whole.1 (long_input bytes left (subst (λ h. IsBeyond h left) whole.0 beyond))
  deck_due deck at finds WriteFault none = absurd none
  deck_due deck at finds NoMemory none = absurd none

module _ (words : List (List ℕ)) (bytes : List ℕ) (left : Option (List ℕ)) (rose : Type 0) (text : List ℕ) where
  -- an input of which something is known is not too long
  known_short : (P : List ℕ → Type 0) → own_deck (command_of words) ≡ None → OfDeck words (Some bytes) left P
      → length bytes ≤ INPUT_LIMIT
  known_short P none fact = (input bytes left P (subst (λ own. OfDeckOr own (Some bytes) left P) none fact)).0

  found_short : (finding : Finding) → own_deck (command_of words) ≡ None → HasFound words (Some bytes) left finding
      → length bytes ≤ INPUT_LIMIT
  found_short finding none (wants, at, found) = known_short (λ b. Finds wants b finding) none found

  length_due : INPUT_LIMIT < length bytes → AreReading words → (status : Status)
      → Cause words (Some bytes) left rose status text → (status ≡ TooLong) ⊎ Fails status
  length_due long (wants, at, none) (Done method) is_done =
      not_short_and_long bytes (known_short (IsReady (Some bytes) left text wants) none
      (ready_of (Some bytes) left text wants words method at is_done)) long
  length_due long (wants, at, none) (Refused fault) (found, line) =
      not_short_and_long bytes (found_short (Faulty fault) none found) long
  length_due long (wants, at, none) ListLimit (found, line) =
      not_short_and_long bytes (found_short TooHeavy none found) long
  length_due long (wants, at, none) OrderLimit (found, line) =
      not_short_and_long bytes (found_short TooManyOrders none found) long
  length_due long (wants, at, none) Usage (unasked, line) = wanted_by words wants at unasked
  length_due long reading ReadFault failed = inr (inl refl)
  length_due long reading TooLong cause = inl refl
  length_due long reading WriteFault none = absurd none
  length_due long reading NoMemory none = absurd none

module _ (words : List (List ℕ)) (held left : Option (List ℕ)) (rose : Type 0) (text : List ℕ) where
  abbrev WantDeck : Type 0
  WantDeck = (wants : Wants) × (wanted words ≡ Some wants)

  none_wants : {P : Type 0} → command_of words ≡ None → WantDeck → P
  none_wants none (wants, at) = wanted_by words wants at none

  found_wants : (finding : Finding) → HasFound words held left finding → WantDeck
  found_wants finding (wants, at, found) = (wants, at)

  reading_wants : AreReading words → WantDeck
  reading_wants (wants, at, none) = (wants, at)

  usage_due : command_of words ≡ None → (status : Status) → Cause words held left rose status text
      → (status ≡ Usage) ⊎ Fails status
  usage_due none (Done method) (command, at, is_method, is_text) = let clash = sym none ∙ at in absurd cc
  usage_due none (Refused fault) (found, line) = none_wants none (found_wants (Faulty fault) found)
  usage_due none ListLimit (found, line) = none_wants none (found_wants TooHeavy found)
  usage_due none OrderLimit (found, line) = none_wants none (found_wants TooManyOrders found)
  usage_due none Usage cause = inl refl
  usage_due none ReadFault cause = inr (inl refl)
  usage_due none TooLong (reading, beyond, line) = none_wants none (reading_wants reading)
  usage_due none WriteFault never = absurd never
  usage_due none NoMemory never = absurd never

  -- a command that reads no deck is done
  module _ (command : Command) (asks : command_of words ≡ Some command) (unread : wants_of (Some command) ≡ None) where
    other_wants : {P : Type 0} → WantDeck → P
    other_wants (wants, at) = wanted_by_other words wants command at asks unread

    other_due : (status : Status) → Cause words held left rose status text → IsDone status ⊎ Fails status
    other_due (Done method) cause = inl (method, refl)
    other_due (Refused fault) (found, line) = other_wants (found_wants (Faulty fault) found)
    other_due ListLimit (found, line) = other_wants (found_wants TooHeavy found)
    other_due OrderLimit (found, line) = other_wants (found_wants TooManyOrders found)
    other_due Usage (none, line) = let clash = sym none ∙ asks in absurd cc
    other_due ReadFault cause = inr (inl refl)
    other_due TooLong (reading, beyond, line) = other_wants (reading_wants reading)
    other_due WriteFault never = absurd never
    other_due NoMemory never = absurd never

-- ---- the clauses of a run

module _ {K : Type 0} {words : List (List ℕ)} {held left : Option (List ℕ)} {rose : Type 0}
    {taken : K → Option (List ℕ)} {faults : K → ℕ} {old new : K} {result : Status}
    (ran : Runs words held left rose taken faults old new result) where
  -- the cause and the text of a status that is written whole
  written : {status : Status} → ¬ (status ≡ WriteFault) → ¬ (status ≡ NoMemory) → result ≡ status
      → (text : List ℕ) × Cause words held left rose status text × Appends (taken old) (taken new) text
  written no_fault enough is = elim ran [
    | inl memory ↦ absurd (enough (sym is ∙ memory.0))
    | inr told ↦ elim told.told [
      | inl whole ↦ (
        told.text,
        subst (λ s. Cause words held left rose s told.text) (sym whole.0 ∙ is)
            (cause words held left rose told.text told.gives),
        whole.1,
      )
      | inr short ↦ absurd (no_fault (sym is ∙ short.0))
    ]
  ]

  done_text : (method : Method) → result ≡ Done method
      → (text : List ℕ) × IsDoneText words held left method text × Appends (taken old) (taken new) text
  done_text method is = written (λ e. let clash = e in cc) (λ e. let clash = e in cc) is

  -- the text of a command was written
  command_text : (command : Command) (method : Method) → command_of words ≡ Some command → result ≡ Done method
      → (text : List ℕ) × IsTextOf command method held left text × Appends (taken old) (taken new) text
  command_text command method asks is =
      let found =
      done_text method is in (
        found.0,
        text_of_command words held left rose found.0 method command asks found.1,
        found.2,
      )

  pub of_command : runs.IsOfCommand words result
  of_command method is = let found = done_text method is in (found.1.0, found.1.1, found.1.2)

  pub prints_cuts : runs.PrintsCuts words held left taken old new result
  prints_cuts most workers asks (method, is) = command_text (Cuts most workers) method asks is

  pub prints_safely : runs.PrintsSafely words held left taken old new result
  prints_safely margin most workers asks (method, is) = command_text (Board margin most workers) method asks is

  pub prints_check : runs.PrintsCheck words held left taken old new result
  prints_check asks (method, is) = command_text Check method asks is

  pub prints_tree : runs.PrintsTree words held left taken old new result
  prints_tree asks (method, is) = command_text Print method asks is

  pub prints_diagram : runs.PrintsDiagram words held left taken old new result
  prints_diagram workers method asks is = command_text (Diagram workers) method asks is

  pub prints_board : runs.PrintsBoard words held left taken old new result
  prints_board margin most workers asks is_done =
      let found = prints_safely margin most workers asks is_done in (
        found.0,
        of_input held left (λ bytes. IsSafeText margin most bytes found.0)
            (λ bytes. IsBoardText margin most bytes found.0) (λ bytes is. plain_text is) found.1,
        found.2,
      )

  pub prints_made : runs.PrintsMade words taken old new result
  prints_made number asks (method, is) =
      let found = command_text (Make number shown.Deck) method asks is in
      subst (Appends (taken old) (taken new)) found.1 found.2

  pub prints_summary : runs.PrintsSummary words taken old new result
  prints_summary number asks (method, is) = command_text (Make number shown.Summary) method asks is

  pub prints_help : runs.PrintsHelp words taken old new result
  prints_help asks (method, is) =
      let found = command_text Help method asks is in subst (Appends (taken old) (taken new)) found.1 found.2

  -- the line of a refusal, with its cause
  pub refuses_words : runs.RefusesWords words taken old new result
  refuses_words is =
      let found = written (λ e. let clash = e in cc) (λ e. let clash = e in cc) is in
      (found.1.0, subst (Appends (taken old) (taken new)) found.1.1 found.2)

  pub refuses_deck : runs.RefusesDeck words held left taken old new result
  refuses_deck fault is =
      let found = written (λ e. let clash = e in cc) (λ e. let clash = e in cc) is in
      (found.1.0, subst (Appends (taken old) (taken new)) found.1.1 found.2)

  pub refuses_weight : runs.RefusesWeight words held left taken old new result
  refuses_weight is =
      let found = written (λ e. let clash = e in cc) (λ e. let clash = e in cc) is in
      (found.1.0, subst (Appends (taken old) (taken new)) found.1.1 found.2)

  pub refuses_orders : runs.RefusesOrders words held left taken old new result
  refuses_orders is =
      let found = written (λ e. let clash = e in cc) (λ e. let clash = e in cc) is in
      (found.1.0, subst (Appends (taken old) (taken new)) found.1.1 found.2)

  pub refuses_length : runs.RefusesLength words held left taken old new result
  refuses_length is =
      let found = written (λ e. let clash = e in cc) (λ e. let clash = e in cc) is in
      (found.1.0, found.1.1, subst (Appends (taken old) (taken new)) found.1.2 found.2)

  pub fails_to_read : runs.FailsToRead words rose taken old new result
  fails_to_read is =
      let found = written (λ e. let clash = e in cc) (λ e. let clash = e in cc) is in
      (found.1.0, found.1.1, subst (Appends (taken old) (taken new)) found.1.2 found.2)

  pub unwritten : result ≡ NoMemory → new ≡ old
  unwritten is = elim ran [
    | inl memory ↦ memory.1
    | inr told ↦ elim told.told [
      | inl whole ↦ absurd (subst (λ s. Cause words held left rose s told.text) (sym whole.0 ∙ is)
          (cause words held left rose told.text told.gives))
      | inr short ↦ let clash = sym is ∙ short.0 in absurd cc
    ]
  ]

  pub front_of : runs.WritesFrontOfText words held left rose taken faults old new result
  front_of is = elim ran [
    | inl memory ↦ let clash = sym is ∙ memory.0 in absurd cc
    | inr told ↦ elim told.told [
      | inl whole ↦ absurd (subst (λ s. Cause words held left rose s told.text) (sym whole.0 ∙ is)
          (cause words held left rose told.text told.gives))
      | inr short ↦ (told.status, told.text, told.gives, short.1)
    ]
  ]

  -- what is due of every status that a text goes with is due of the run
  due : (P : Status → Type 0) → ((status : Status) (text : List ℕ) → Cause words held left rose status text
      → P status ⊎ Fails status) → P result ⊎ Fails result
  due P each = elim ran [
    | inl memory ↦ inr (inr (inr memory.0))
    | inr told ↦ elim told.told [
      | inl whole ↦ subst (λ s. P s ⊎ Fails s) (sym whole.0)
          (each told.status told.text (cause words held left rose told.text told.gives))
      | inr short ↦ inr (inr (inl short.0))
    ]
  ]

  pub answers_words : runs.AnswersWords words result
  answers_words = (
    λ none. due (λ s. s ≡ Usage) (λ status text causes. usage_due words held left rose text none status causes),
    λ asks. due IsDone (λ status text causes. other_due words held left rose text Help asks refl status causes),
    λ number asks. due IsDone
        (λ status text causes. other_due words held left rose text (Make number shown.Deck) asks refl status causes),
  )

  pub answers_deck : runs.AnswersDeck words held result
  answers_deck bytes wants finding deck at finds =
      due (Answers finding) (λ status text causes.
      deck_due words bytes held left rose text deck at finds status causes)

  pub answers_length : runs.AnswersLength words held result
  answers_length bytes holds long reading =
      due (λ s. s ≡ TooLong) (λ status text causes.
      length_due words bytes left rose text long reading status
      (subst (λ h. Cause words h left rose status text) holds causes))
