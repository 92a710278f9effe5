-- The first word of a line, and what follows it.
use Rattle.std.specs.Prelude.{◌≡◌, List, [], ◌∷◌, Option, Some, None}
use Rattle.crew_script.specs.{declared.word.TakenWord.TakenWord, Words.Word, Words.words_of}

-- what reading the first word gives: the word with the words behind it, or that there is none
abbrev pub TakesWord : List Word → Option TakenWord → Type 0
TakesWord all None = all ≡ []
TakesWord all (Some taken) = all ≡ taken.word ∷ words_of taken.behind.now
