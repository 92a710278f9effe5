-- The forms of lines, as the format puts them.
use Rattle.std.specs.Prelude.{◌≡◌, ℕ, true, List, [], ◌∷◌, ◌++◌, map, codes, Some}
use Rattle.std.specs.List.{list_all}
use Rattle.crew_script.specs.Words.{Word, Spells, are_blank}
use Rattle.crew_script.specs.{Names.are_taken, declared.line.Line.Line}
use Rattle.crew_script.specs.Lines.{says, is_name_word, is_bare_kind, margin_of}
use Rattle.crew_script.specs.declared.dockets.Ask.TheVariants.{Take, Return, Margin}
use Rattle.crew_script.specs.declared.line.Line.TheVariants.{Nothing, Crew, Request}

-- the texts of words
abbrev pub texts : List Word → List (List ℕ)
texts words = map (λ (word : Word). word.text) words

-- A line says this. Blanks alone say nothing, and so does a line whose first byte that is no blank is `#`. Every
-- other line has the words of a form: `crew` and a name, `take` and 1 to 16 different names, `return` and a name,
-- `margin` and a number.
pub data Says : List ℕ → Line → Type 0 where
  says_blank : (line : List ℕ) → are_blank line ≡ true → Says line Nothing
  says_comment : (gap rest : List ℕ) → are_blank gap ≡ true → Says (gap ++ 35 ∷ rest) Nothing
  says_crew : (line : List ℕ) (first name : Word) → Spells (first ∷ name ∷ []) line → says first (codes "crew") ≡ true
      → is_name_word name ≡ true → Says line (Crew name.text)
  says_take : (line : List ℕ) (first : Word) (names : List Word) → Spells (first ∷ names) line
      → says first (codes "take") ≡ true
      → list_all is_name_word names ≡ true → are_taken (texts names) ≡ true → Says line (Request (Take (texts names)))
  says_return : (line : List ℕ) (first name : Word) → Spells (first ∷ name ∷ []) line
      → says first (codes "return") ≡ true
      → is_name_word name ≡ true → Says line (Request (Return name.text))
  says_margin : (line : List ℕ) (first word : Word) (number : ℕ) → Spells (first ∷ word ∷ []) line
      → says first (codes "margin") ≡ true
      → is_bare_kind word.kind ≡ true → margin_of word.text ≡ Some number → Says line (Request (Margin number))
