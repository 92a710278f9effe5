-- The spellings of the commands are read, and nothing else is.
use Rattle.std.specs.Prelude.{◌≡◌, ℕ, ◌≤◌, Bool, true, false, if◌then◌else◌, List, [], ◌∷◌, codes, Option, Some, None}
use Rattle.std.specs.Prelude.{unwrap_or}
use Rattle.std.proofs.Common.{refl, arith, sym, ap, ◌∙◌, subst}
use Rattle.deck_limits.specs.declared.TheConstants.{GREATEST_MARGIN, HIGHEST_MADE, MOST_ORDERED, MOST_WORKERS}
use Rattle.board_words.specs.declared.command.Command.{Command}
use Rattle.board_words.specs.declared.command.Command.TheVariants.{Cuts, Board, Check, Print, Diagram, Make, Help}
use Rattle.board_words.specs.declared.command.Show.{Show}
use Rattle.board_words.specs.declared.command.Show.TheVariants.{Deck, Summary}
use Rattle.board_words.specs.Options.{is_same, are_options, value_of}
use Rattle.board_words.specs.Command.{cuts_options, board_options, diagram_options, make_options, margin_in, most_in}
use Rattle.board_words.specs.Command.{workers_in, number_in, show_said, show_in, cuts_with, board_with, diagram_with}
use Rattle.board_words.specs.Command.{make_with, if_options, cuts_of, board_of, diagram_of, make_of, if_alone}
use Rattle.board_words.specs.Command.{command_of}
use Rattle.board_words.specs.Spellings as said
use Rattle.board_words.specs.Spellings.{Said, words_of, AreSaid, SaysNumber, SaysDeckNumber, SaysShow, Spells}
use Rattle.board_words.specs.Spellings.{IsWithinBounds}
use Rattle.board_words.proofs.Numerals.{some_if, some_is}
use Rattle.board_words.proofs.OptionWords.{same_word, value_has, value_lacks, has_value, lacks_value, are_said, as_said}
use Rattle.board_words.proofs.OptionWords.{number_read, number_says}

-- ---- a spelling is read

with_options : (known : List (List ℕ)) (options : List Said) (command : Option Command) → AreSaid known options
    → if_options known (words_of options) command ≡ command
with_options known options command all = ap (λ b. if b then command else None) (are_said known options all)

cuts_read : {a b : Option ℕ} (most workers : ℕ) → a ≡ Some most → b ≡ Some workers
    → cuts_with a b ≡ Some (Cuts most workers)
cuts_read {b} most workers one two = ap (λ o. cuts_with o b) one ∙ ap (cuts_with (Some most)) two

board_read : {a b c : Option ℕ} (margin most workers : ℕ) → a ≡ Some margin → b ≡ Some most → c ≡ Some workers
    → board_with a b c ≡ Some (Board margin most workers)
board_read {b} {c} margin most workers one two three =
    ap (λ o. board_with o b c) one ∙ ap (λ o. board_with (Some margin) o c) two
    ∙ ap (board_with (Some margin) (Some most)) three

make_read : {a : Option ℕ} {b : Option Show} (number : ℕ) (show : Show) → a ≡ Some number → b ≡ Some show
    → make_with a b ≡ Some (Make number show)
make_read {b} number show one two = ap (λ o. make_with o b) one ∙ ap (make_with (Some number)) two

show_read : (known : List (List ℕ)) {options : List Said} (show : Show) → AreSaid known options → SaysShow options show
    → show_in (words_of options) ≡ Some show
show_read known {options} Deck all (said.deck has) =
    ap show_said (has_value known options (codes "--show") (codes "deck") all has)
show_read known {options} Summary all (said.summary has) =
    ap show_said (has_value known options (codes "--show") (codes "summary") all has)
show_read known {options} Summary all (said.unsaid_show lacks) = ap show_said
    (lacks_value options (codes "--show") lacks)

pub spelling_read : (command : Command) (words : List (List ℕ)) → Spells command words → command_of words ≡ Some command
spelling_read command words (said.cuts options most workers all says_most says_workers) =
    with_options cuts_options options (cuts_with (most_in (words_of options)) (workers_in (words_of options))) all
    ∙ cuts_read most workers (number_read cuts_options (omega arith) all says_most)
    (number_read cuts_options (omega arith) all says_workers)
spelling_read command words (said.board options margin most workers all says_margin says_most says_workers) =
    with_options board_options options (board_with (margin_in (words_of options)) (most_in (words_of options))
    (workers_in (words_of options))) all
    ∙ board_read margin most workers (number_read board_options (omega arith) all says_margin)
    (number_read board_options (omega arith) all says_most) (number_read board_options (omega arith) all says_workers)
spelling_read command words said.check = refl
spelling_read command words said.print = refl
spelling_read command words (said.diagram options workers all says_workers) =
    with_options diagram_options options (diagram_with (workers_in (words_of options))) all
    ∙ ap diagram_with (number_read diagram_options (omega arith) all says_workers)
spelling_read command words (said.make options number show all says_number says_show) =
    with_options make_options options (make_with (number_in (words_of options)) (show_in (words_of options))) all
    ∙ make_read number show (number_read make_options (omega arith) all says_number)
    (show_read make_options show all says_show)
spelling_read command words said.help = refl

-- ---- nothing else is

module _ (command : Command) where
  -- what two or three readings give together
  record Both {A B : Type 0} (one : Option A) (two : Option B) (made : A → B → Command) : Type 0 where
    first : A
    second : B
    one_is : one ≡ Some first
    two_is : two ≡ Some second
    is : Some (made first second) ≡ Some command

  record Three (one two three : Option ℕ) : Type 0 where
    first : ℕ
    second : ℕ
    third : ℕ
    one_is : one ≡ Some first
    two_is : two ≡ Some second
    three_is : three ≡ Some third
    is : Some (Board first second third) ≡ Some command

  cuts_parts : (a b : Option ℕ) → cuts_with a b ≡ Some command → Both a b Cuts
  cuts_parts None b e = absurd cc
  cuts_parts (Some most) None e = absurd cc
  cuts_parts (Some most) (Some workers) e =
      record { first = most; second = workers; one_is = refl; two_is = refl; is = e }

  board_parts : (a b c : Option ℕ) → board_with a b c ≡ Some command → Three a b c
  board_parts None b c e = absurd cc
  board_parts (Some margin) None c e = absurd cc
  board_parts (Some margin) (Some most) None e = absurd cc
  board_parts (Some margin) (Some most) (Some workers) e =
      record { first = margin; second = most; third = workers; one_is = refl; two_is = refl; three_is = refl; is = e }

  diagram_parts : (a : Option ℕ) → diagram_with a ≡ Some command
      → (workers : ℕ) × (a ≡ Some workers) × (Some (Diagram workers) ≡ Some command)
  diagram_parts None e = absurd cc
  diagram_parts (Some workers) e = (workers, refl, e)

  make_parts : (a : Option ℕ) (b : Option Show) → make_with a b ≡ Some command → Both a b Make
  make_parts None b e = absurd cc
  make_parts (Some number) None e = absurd cc
  make_parts (Some number) (Some show) e =
      record { first = number; second = show; one_is = refl; two_is = refl; is = e }

  -- a command that is read is the one that is spelled
  as_read : {spelled : Command} {words : List (List ℕ)} → Some spelled ≡ Some command → Spells spelled words
      → Spells command words
  as_read {spelled} {words} is spells =
      let same : spelled ≡ command = ap (λ o. unwrap_or o Help) is in subst (λ c. Spells c words) same spells

  cuts_spelled : {options : List (List ℕ)} → cuts_of options ≡ Some command → Spells command (codes "cuts" ∷ options)
  cuts_spelled {options} e =
      let parts =
      some_if (are_options cuts_options options) (cuts_with (most_in options) (workers_in options)) command e in
      let pairs = as_said cuts_options options parts.0 in
      let both =
      cuts_parts (most_in (words_of pairs.options)) (workers_in (words_of pairs.options))
      (subst (λ w. cuts_with (most_in w) (workers_in w) ≡ Some command) pairs.are parts.1) in
      subst (λ w. Spells command (codes "cuts" ∷ w)) (sym pairs.are) (as_read both.is
      (said.cuts pairs.options both.first both.second pairs.all
      (number_says 0 MOST_ORDERED (Some 6) (codes "--most") pairs.options both.first both.one_is)
      (number_says 1 MOST_WORKERS (Some 4) (codes "--workers") pairs.options both.second both.two_is)))

  board_spelled : {options : List (List ℕ)} → board_of options ≡ Some command → Spells command (codes "board" ∷ options)
  board_spelled {options} e =
      let parts =
      some_if (are_options board_options options) (board_with (margin_in options) (most_in options)
      (workers_in options)) command e in
      let pairs = as_said board_options options parts.0 in
      let three =
      board_parts (margin_in (words_of pairs.options)) (most_in (words_of pairs.options))
      (workers_in (words_of pairs.options))
      (subst (λ w. board_with (margin_in w) (most_in w) (workers_in w) ≡ Some command) pairs.are parts.1) in
      subst (λ w. Spells command (codes "board" ∷ w)) (sym pairs.are) (as_read three.is
      (said.board pairs.options three.first three.second three.third pairs.all
      (number_says 0 GREATEST_MARGIN (Some 0) (codes "--margin") pairs.options three.first three.one_is)
      (number_says 0 MOST_ORDERED (Some 6) (codes "--most") pairs.options three.second three.two_is)
      (number_says 1 MOST_WORKERS (Some 4) (codes "--workers") pairs.options three.third three.three_is)))

  diagram_spelled : {options : List (List ℕ)} → diagram_of options ≡ Some command
      → Spells command (codes "diagram" ∷ options)
  diagram_spelled {options} e =
      let parts = some_if (are_options diagram_options options) (diagram_with (workers_in options)) command e in
      let pairs = as_said diagram_options options parts.0 in
      let one =
      diagram_parts (workers_in (words_of pairs.options))
      (subst (λ w. diagram_with (workers_in w) ≡ Some command) pairs.are parts.1) in
      subst (λ w. Spells command (codes "diagram" ∷ w)) (sym pairs.are) (as_read one.2
      (said.diagram pairs.options one.0 pairs.all (number_says 1 MOST_WORKERS (Some 4) (codes "--workers") pairs.options
      one.0 one.1)))

  show_says : (options : List Said) (show : Show) → show_in (words_of options) ≡ Some show → SaysShow options show
  show_says options show e = by_value (value_of (codes "--show") (words_of options)) refl e
    where
      is_shown : (s : Show) → Some s ≡ Some show → SaysShow options s → SaysShow options show
      is_shown s is says = let same : s ≡ show = ap (λ o. unwrap_or o Summary) is in subst (SaysShow options) same says

      by_word : (value : List ℕ) (b c : Bool) → value_of (codes "--show") (words_of options) ≡ Some value
          → is_same value (codes "deck") ≡ b → is_same value (codes "summary") ≡ c
          → (if b then Some Deck else (if c then Some Summary else None)) ≡ Some show → SaysShow options show
      by_word value true c is deck summary e =
          is_shown Deck e (said.deck (value_has options (codes "--show") (codes "deck")
          (is ∙ ap (λ v. Some v) (same_word value (codes "deck") deck))))
      by_word value false true is deck summary e =
          is_shown Summary e (said.summary (value_has options (codes "--show") (codes "summary")
          (is ∙ ap (λ v. Some v) (same_word value (codes "summary") summary))))
      by_word value false false is deck summary e = absurd cc

      by_value : (value : Option (List ℕ)) → value_of (codes "--show") (words_of options) ≡ value
          → show_said value ≡ Some show → SaysShow options show
      by_value None is e = is_shown Summary e (said.unsaid_show (value_lacks options (codes "--show") is))
      by_value (Some value) is e =
          by_word value (is_same value (codes "deck")) (is_same value (codes "summary")) is refl refl e

  make_spelled : {options : List (List ℕ)} → make_of options ≡ Some command → Spells command (codes "make" ∷ options)
  make_spelled {options} e =
      let parts =
      some_if (are_options make_options options) (make_with (number_in options) (show_in options)) command e in
      let pairs = as_said make_options options parts.0 in
      let both =
      make_parts (number_in (words_of pairs.options)) (show_in (words_of pairs.options))
      (subst (λ w. make_with (number_in w) (show_in w) ≡ Some command) pairs.are parts.1) in
      subst (λ w. Spells command (codes "make" ∷ w)) (sym pairs.are) (as_read both.is
      (said.make pairs.options both.first both.second pairs.all
      (number_says 0 HIGHEST_MADE None (codes "--number") pairs.options both.first both.one_is)
      (show_says pairs.options both.second both.two_is)))

  alone_spelled : {other : Command} {word : List ℕ} (options : List (List ℕ)) → Spells other (word ∷ [])
      → if_alone other options ≡ Some command → Spells command (word ∷ options)
  alone_spelled [] spells e = as_read e spells
  alone_spelled (option ∷ options) spells e = absurd cc

  -- ---- by the first word

  either : {first : List ℕ} (word : List ℕ) {options : List (List ℕ)} (here later : Option Command)
      → (here ≡ Some command → Spells command (word ∷ options))
      → (later ≡ Some command → Spells command (first ∷ options))
      → (if is_same first word then here else later) ≡ Some command → Spells command (first ∷ options)
  either {first} word {options} here later spelled behind e = by_test (is_same first word) refl e
    where
      by_test : (b : Bool) → is_same first word ≡ b → (if b then here else later) ≡ Some command
          → Spells command (first ∷ options)
      by_test true same e = subst (λ f. Spells command (f ∷ options)) (sym (same_word first word same)) (spelled e)
      by_test false same e = behind e

  pub only_spelling : (words : List (List ℕ)) → command_of words ≡ Some command → Spells command words
  only_spelling [] e = absurd cc
  only_spelling (first ∷ options) e =
      either (codes "cuts") (cuts_of options) _ (cuts_spelled)
      (either (codes "board") (board_of options) _ (board_spelled) (either (codes "check") (if_alone Check options) _
      (alone_spelled options said.check) (either (codes "print") (if_alone Print options) _
      (alone_spelled options said.print) (either (codes "diagram") (diagram_of options) _ (diagram_spelled)
      (either (codes "make") (make_of options) _ (make_spelled) (either (codes "help") (if_alone Help options) None
      (alone_spelled options said.help) (λ none. absurd cc))))))) e

-- ---- the numbers are within their bounds

number_low : {least most : ℕ} (default : ℕ) {option : List ℕ} {options : List Said} {number : ℕ} → least ≤ default
    → SaysNumber least most (Some default) option options number → least ≤ number
number_low default low (said.written has above below) = above
number_low {least} default {number} low (said.unsaid lacks is) = subst (λ n. least ≤ n) (some_is default number is) low

number_high : {least most : ℕ} (default : ℕ) {option : List ℕ} {options : List Said} {number : ℕ} → default ≤ most
    → SaysNumber least most (Some default) option options number → number ≤ most
number_high default high (said.written has above below) = below
number_high {most} default {number} high (said.unsaid lacks is) = subst (λ n. n ≤ most) (some_is default number is) high

deck_number_high : {options : List Said} {number : ℕ} → SaysDeckNumber options number → number ≤ HIGHEST_MADE
deck_number_high (said.written has above below) = below
deck_number_high (said.unsaid lacks is) = absurd cc

pub within_bounds : {command : Command} {words : List (List ℕ)} → Spells command words → IsWithinBounds command
within_bounds (said.cuts options most workers all says_most says_workers) = (
  number_high 6 (omega arith) says_most,
  number_low 4 (omega arith) says_workers,
  number_high 4 (omega arith) says_workers,
)
within_bounds (said.board options margin most workers all says_margin says_most says_workers) = (
  number_high 0 (omega arith) says_margin,
  number_high 6 (omega arith) says_most,
  number_low 4 (omega arith) says_workers,
  number_high 4 (omega arith) says_workers,
)
within_bounds said.check = tt
within_bounds said.print = tt
within_bounds (said.diagram options workers all says_workers) = (
  number_low 4 (omega arith) says_workers,
  number_high 4 (omega arith) says_workers,
)
within_bounds (said.make options number show all says_number says_show) = deck_number_high says_number
within_bounds said.help = tt
