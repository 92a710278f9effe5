-- Live histories: entries of passes, all in one order.
use Rattle.std.specs.Prelude.{◌≡◌, ℕ, ◌<◌, ◌==◌, List, [], ◌∷◌, ◌++◌, map, length, if◌then◌else◌}
use Rattle.margin_policy.specs.Standing.{StandingView}
use Rattle.outage_board.specs.{declared.entry.Entry.Entry, Histories.IsLegal, Histories.standing_after}
use Rattle.live_board.specs.declared.entry.LiveEntry.{LiveEntry}

-- the entries of a live history without the numbers of their passes
abbrev pub entries_in : List LiveEntry → List Entry
entries_in history = map (λ (made : LiveEntry). made.entry) history

-- the entries with a pass number, in order
abbrev pub made_by : ℕ → List LiveEntry → List Entry
made_by number [] = []
made_by number (made ∷ history) = if made.pass == number then made.entry ∷ made_by number history
    else made_by number history

-- Behind some entries others go on, and the place of each of these is how many entries before it have its pass number.
abbrev pub AreNumbered : List LiveEntry → List LiveEntry → Type 0
AreNumbered before [] = Unit {0}
AreNumbered before (made ∷ history) = (made.entry.place ≡ length (made_by made.pass before))
    × AreNumbered (before ++ made ∷ []) history

-- The entries are a legal history, so that each reply is the decision at what the entries before it leave, and their
-- places are numbered.
pub record IsLiveHistory (opening : StandingView) (history : List LiveEntry) : Type 0 where
  pub legal : IsLegal opening (entries_in history)
  pub places : AreNumbered [] history

-- what a live history leaves of a standing
abbrev pub standing_left : StandingView → List LiveEntry → StandingView
standing_left opening history = standing_after opening (entries_in history)

-- a history begins with another
pub record BeginsWith (history front : List LiveEntry) : Type 0 where
  pub rest : List LiveEntry
  pub is : history ≡ front ++ rest

-- An entry is the last of a history. Those before it begin with what was seen, and left room for it.
pub record EndsWith (room : ℕ) (seen : List LiveEntry) (made : LiveEntry) (history : List LiveEntry) : Type 0 where
  pub found : List LiveEntry
  pub begins : BeginsWith found seen
  pub is : history ≡ found ++ made ∷ []
  pub few : length found < room
