-- What a seat's view becomes by each kind of step.
use Rattle.std.specs.Prelude.{ℕ, ◌+◌, ◌-◌, ◌==◌, [], ◌∷◌, ◌++◌, if◌then◌else◌}
use Rattle.zdd_shared_table.specs.{declared.view.View.View, declared.view.Probe.Probe}

-- no search goes on
abbrev pub no_probe : Probe
no_probe = record { word = 0; passed = 0 }

-- the first seat of a table of this size knows no node
abbrev pub first_view : ℕ → View
first_view size =
    record { size = size; known = []; fulls = 0; missed = []; fills = []; share = 4294967296; probe = no_probe }

-- what a joined seat leaves behind
abbrev pub spent : View
spent = record { size = 0; known = []; fulls = 0; missed = []; fills = []; share = 0; probe = no_probe }

-- the search ended at the slot that holds the word
abbrev pub learned : ℕ → ℕ → View → View
learned word slot v = record v { known = v.known ++ (slot + 2, word) ∷ []; probe = no_probe }

-- the search ended at an empty slot, which the seat filled with the word
abbrev pub filled : ℕ → ℕ → View → View
filled word slot v =
    record v { known = v.known ++ (slot + 2, word) ∷ []; fills = v.fills ++ (slot + 2) ∷ []; probe = no_probe }

-- the search for a word goes on, having passed some slots
abbrev pub searching : ℕ → ℕ → View → View
searching word passed v = record v { probe = record { word = word; passed = passed } }

-- the search for a word has passed every slot: a full search
abbrev pub searched_all : ℕ → View → View
searched_all word v =
    record v { fulls = v.fulls + 1; missed = v.missed ++ word ∷ []; probe = record { word = word; passed = v.size } }

-- the search passed one more slot
abbrev pub passed_on : ℕ → ℕ → View → View
passed_on word before v = if before + 1 == v.size then searched_all word v else searching word (before + 1) v

-- after a load of a slot in a search
abbrev pub loaded : ℕ → ℕ → ℕ → ℕ → View → View
loaded word before slot found v =
    if found == 0 then v else (if found == word then learned word slot v else passed_on word before v)

-- after an exchange of an empty slot in a search
abbrev pub exchanged : ℕ → ℕ → ℕ → ℕ → View → View
exchanged word before slot found v =
    if found == 0 then filled word slot v else (if found == word then learned word slot v else passed_on word before v)

-- a seat that splits off a share, and the new seat with that share
abbrev pub kept_back : ℕ → View → View
kept_back share v = record v { share = v.share - share }

-- the new seat, with the share that was asked for and counts of its own
abbrev pub split_off : ℕ → View → View
split_off share v = record v { fulls = 0; missed = []; fills = []; share = share; probe = no_probe }

-- a seat that takes in another
abbrev pub joined : View → View → View
joined v w =
    record v {
      known = v.known ++ w.known;
      fulls = v.fulls + w.fulls;
      missed = v.missed ++ w.missed;
      fills =
          v.fills ++ w.fills;
      share = v.share + w.share;
    }
