-- What a search of the index found.
use Rattle.std.specs.Prelude.{◌≡◌, ℕ, ◌<◌, List, get_or, length}
use Rattle.family_memory.specs.declared.index.Search.{Search}
use Rattle.family_memory.specs.declared.index.Search.TheVariants.{Found, Free, Nowhere}

-- a reference that was found has the word
abbrev pub IsSearched : List ℕ → ℕ → Search → Type 0
IsSearched words word (Found r) = (r < length words) × (get_or words r 0 ≡ word)
IsSearched words word (Free place) = Unit {0}
IsSearched words word Nowhere = Unit {0}
