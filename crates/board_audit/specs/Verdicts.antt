-- How far a log agrees with its deck.
use Rattle.std.specs.Prelude.{◌≡◌, ◌≢◌, ℕ, ◌+◌, ◌≤◌, List, [], ◌++◌, length}
use Rattle.crew_script.specs.Dockets.{request_count}
use Rattle.outage_board.specs.declared.entry.Entry.{Entry as BoardEntry}
use Rattle.outage_board.specs.{Boards.Deck, Histories.IsLegal, Histories.IsWhole, Histories.IsWholeUpTo}
use Rattle.board_report.specs.LogText.{entry_lines, log_head, log_text}
use Rattle.board_audit.specs.declared.verdict.Verdict.{Verdict}
use Rattle.board_audit.specs.declared.verdict.Verdict.TheVariants.{Yes, Header, Entry, Rest}

-- the head of a log of all requests of a deck, `log: R`
abbrev pub deck_head : Deck → List ℕ
deck_head deck = log_head (request_count deck.crews)

-- a log begins with this head
abbrev pub HasHead : Deck → List ℕ → Type 0
HasHead deck log = (rest : List ℕ) × (log ≡ deck_head deck ++ rest)

-- a history that the deck's board can have had: it is legal, and whole up to some numbers of requests
pub record IsHistory (deck : Deck) (history : List BoardEntry) : Type 0 where
  pub legal : IsLegal deck.opening history
  pub counts : ℕ → ℕ
  pub whole : IsWholeUpTo deck.dockets counts history

-- a log begins with the head and the lines of such a history of so many entries, and this follows
pub record Agrees (deck : Deck) (log : List ℕ) (number : ℕ) (rest : List ℕ) : Type 0 where
  pub history : List BoardEntry
  pub long : length history ≡ number
  pub of_deck : IsHistory deck history
  pub text : log ≡ deck_head deck ++ (entry_lines deck.crews 1 history ++ rest)

-- it does, whatever follows
abbrev pub AgreesUpTo : Deck → List ℕ → ℕ → Type 0
AgreesUpTo deck log number = (rest : List ℕ) × Agrees deck log number rest

-- a log agrees up to the entry before this one of all requests, and not up to this one
pub record StopsAt (deck : Deck) (log : List ℕ) (number : ℕ) : Type 0 where
  pub before : ℕ
  pub next : number ≡ before + 1
  pub within : number ≤ request_count deck.crews
  pub agrees : AgreesUpTo deck log before
  pub stops : ¬ AgreesUpTo deck log number

-- a log agrees up to all requests, and bytes follow
pub record GoesOn (deck : Deck) (log : List ℕ) : Type 0 where
  pub rest : List ℕ
  pub agrees : Agrees deck log (request_count deck.crews) rest
  pub more : rest ≢ []

-- the verdict on a log
abbrev pub IsVerdict : Deck → List ℕ → Verdict → Type 0
IsVerdict deck log Header = ¬ HasHead deck log
IsVerdict deck log (Entry number) = StopsAt deck log number
IsVerdict deck log Rest = GoesOn deck log
IsVerdict deck log Yes = Agrees deck log (request_count deck.crews) []

-- a log is that of a legal and whole history, as the text of a board has it
pub record IsWholeLog (deck : Deck) (log : List ℕ) : Type 0 where
  pub history : List BoardEntry
  pub legal : IsLegal deck.opening history
  pub whole : IsWhole deck.dockets history
  pub text : log ≡ log_text deck.crews history
