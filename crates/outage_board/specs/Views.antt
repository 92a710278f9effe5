-- What a pass knows of a board, and what that becomes by each kind of step.
use Rattle.std.specs.Prelude.{ℕ, zero, suc, true, false, List, [], ◌∷◌, ◌++◌, map, length, None}
use Rattle.outage_board.specs.{declared.entry.Entry.Entry, declared.view.View.View, declared.view.Made.Made}
use Rattle.outage_board.specs.{Histories.entries_of, Boards.BoardView}

-- the crews from a number on, none of which has made anything
abbrev pub nothing_made : ℕ → ℕ → List Made
nothing_made number zero = []
nothing_made number (suc count) = record { crew = number; entries = [] } ∷ nothing_made (suc number) count

-- the first pass of a board has all crews
abbrev pub first_view : BoardView → View
first_view opened = record {
  opened = opened;
  crews = nothing_made 0 (length opened.deck.crews);
  turn = false;
  taken = [];
}

-- what a joined pass leaves behind
abbrev pub spent : View
spent = record {
  opened = record {
    deck = record {
      opening = record { units = 0; cuts = []; margin = 0; supervisor = None; held = [] };
      crews = [];
      dockets = [];
    };
    history = [];
  };
  crews = [];
  turn = false;
  taken = [];
}

-- a pass without crews
abbrev pub bare : View → View
bare v = record v { crews = []; turn = false; taken = [] }

-- the pass has the turn, and took this history
abbrev pub holding : List Entry → View → View
holding history v = record v { turn = true; taken = history }

-- what was made for each crew is what this history has of it
abbrev pub made_in : List Entry → List Made → List Made
made_in history crews = map (λ (made : Made). record { crew = made.crew; entries = entries_of made.crew history }) crews

-- the pass gave the turn back with this history
abbrev pub settled : List Entry → View → View
settled history v = record v { crews = made_in history v.crews; turn = false; taken = [] }

-- the first of some crews alone, with what was made for it; none where there is none
abbrev pub first_of : List Made → List Made
first_of [] = []
first_of (made ∷ crews) = made ∷ []

-- all of some crews but the first, each with what was made for it
abbrev pub rest_of : List Made → List Made
rest_of [] = []
rest_of (made ∷ crews) = crews

-- the pass of the first crew, and the pass of the others
abbrev pub of_first : View → View
of_first v = record v { crews = first_of v.crews }

-- the pass of all its crews but the first
abbrev pub of_others : View → View
of_others v = record v { crews = rest_of v.crews }

-- a pass that takes in another
abbrev pub together : View → View → View
together v w = record v { crews = v.crews ++ w.crews }
