-- What a pass knows of a live board, and what that becomes by each kind of step.
use Rattle.std.specs.Prelude.{◌≡◌, ◌⊎◌, ℕ, zero, suc, ◌-◌, ◌==◌, Bool, true, false, List, [], ◌∷◌, ◌++◌, map, None, All}
use Rattle.std.specs.Prelude.{if◌then◌else◌}
use Rattle.outage_board.specs.declared.entry.Entry.{Entry}
use Rattle.live_board.specs.declared.entry.LiveEntry.{LiveEntry}
use Rattle.live_board.specs.{declared.view.View.View, declared.view.Own.Own}
use Rattle.live_board.specs.{Histories.made_by, Histories.BeginsWith, Boards.LiveView}

-- so many numbers from one on
abbrev pub numbers_from : ℕ → ℕ → List ℕ
numbers_from number zero = []
numbers_from number (suc count) = number ∷ numbers_from (suc number) count

-- a pass number under which no entry was made
abbrev pub nothing_under : ℕ → Own
nothing_under number = record { pass = number; entries = [] }

-- the first pass of a board has the number 0, and all others to spare
abbrev pub first_view : LiveView → View
first_view opened = record {
  opened = opened;
  number = 0;
  own = nothing_under 0 ∷ [];
  spare = numbers_from 1 (opened.setup.passes - 1);
  seen = [];
  told = [];
  turn = false;
}

-- what a joined pass leaves behind
abbrev pub spent : View
spent = record {
  opened = record {
    setup = record {
      opening = record { units = 0; cuts = []; margin = 0; supervisor = None; held = [] };
      passes = 0;
      room = 0;
    };
    history = [];
  };
  number = 0;
  own = [];
  spare = [];
  seen = [];
  told = [];
  turn = false;
}

-- the pass has the turn, and sees this history
abbrev pub holding : List LiveEntry → View → View
holding history v = record v { seen = history; told = []; turn = true }

-- what was made under each number is what this history has of it
abbrev pub own_in : List LiveEntry → List Own → List Own
own_in history own = map (λ (o : Own). record { pass = o.pass; entries = made_by o.pass history }) own

-- the pass gave the turn back with this history
abbrev pub settled : List LiveEntry → View → View
settled history v = record v { own = own_in history v.own; seen = history; told = []; turn = false }

-- the first of some numbers, or 0
abbrev pub first_number : List ℕ → ℕ
first_number [] = 0
first_number (number ∷ numbers) = number

-- the first of some numbers, if there is one, under which no entry was made
abbrev pub first_own : List ℕ → List Own
first_own [] = []
first_own (number ∷ numbers) = nothing_under number ∷ []

-- all of some numbers but the first
abbrev pub other_numbers : List ℕ → List ℕ
other_numbers [] = []
other_numbers (number ∷ numbers) = numbers

-- the new pass has the first spare number, has seen as much, and has no number to spare
abbrev pub of_new : View → View
of_new v =
    record v { number = first_number v.spare; own = first_own v.spare; spare = []; told = [] }

-- the old pass has one number less to spare
abbrev pub of_old : View → View
of_old v = record v { spare = other_numbers v.spare }

-- whether a history goes on past the end of another
abbrev pub goes_past : List LiveEntry → List LiveEntry → Bool
goes_past [] other = false
goes_past (made ∷ history) [] = true
goes_past (made ∷ history) (first ∷ other) = goes_past history other

-- the longer of two histories
abbrev pub longer : List LiveEntry → List LiveEntry → List LiveEntry
longer history other = if goes_past history other then history else other

-- the other one
abbrev pub shorter : List LiveEntry → List LiveEntry → List LiveEntry
shorter history other = if goes_past history other then other else history

-- A pass that takes in another: it has the numbers of both, and has seen the longer history. What the other's spare
-- numbers were is lost.
abbrev pub together : View → View → View
together v w =
    record v { own = v.own ++ w.own; seen = longer v.seen w.seen; told = shorter v.seen w.seen }

-- a pass that has found out what it was told
abbrev pub looked : View → View
looked v = record v { told = [] }

-- the entries of a history with each number are exactly those that were made under it
abbrev pub AreOwn : List LiveEntry → List Own → Type 0
AreOwn history own = All (λ (o : Own). made_by o.pass history ≡ o.entries) own

-- no entry of a history has one of these numbers
abbrev pub AreUnused : List LiveEntry → List ℕ → Type 0
AreUnused history numbers = All (λ number. made_by number history ≡ []) numbers

-- with one entry more under its pass number
abbrev pub gained : LiveEntry → List Own → List Own
gained made own =
    map (λ (o : Own). record {
      pass = o.pass;
      entries = o.entries ++ (if made.pass == o.pass then made.entry ∷ [] else []);
    }) own

-- the entries under a number; none where it is not among those that there are
abbrev pub made_under : ℕ → List Own → List Entry
made_under number [] = []
made_under number (o ∷ own) = if o.pass == number then o.entries else made_under number own

-- one history is the longer of two, of which the shorter begins it
abbrev pub IsLonger : List LiveEntry → List LiveEntry → List LiveEntry → Type 0
IsLonger history other both = ((both ≡ history) ⊎ (both ≡ other)) × BeginsWith both history × BeginsWith both other
