-- Labels, which stand in double quotes, by the rules of the DOT language: how a text is written in one, and what one
-- shows.
use Rattle.std.specs.Prelude.{ℕ, ◌==◌, if◌then◌else◌, nat_eq, List, [], ◌∷◌, ◌++◌, codes, Option, Some, None}
use Rattle.std.specs.{List.flat_map, Cmp.Lexicographic.pointwise}

-- ---- writing

-- A byte in a label: a quotation mark and a backslash stand behind a backslash, and in place of an ampersand, by which
-- an entity would begin, stands the entity for it.
abbrev pub label_byte : ℕ → List ℕ
label_byte byte =
    if byte == 34 then codes "\\\""
    else (if byte == 92 then codes "\\\\"
    else (if byte == 38 then codes "&amp;" else byte ∷ []))

-- a text in a label
abbrev pub label_text : List ℕ → List ℕ
label_text text = flat_map label_byte text

-- ---- reading

-- where in a label the reading is: in its text, behind a backslash, or behind these bytes of an entity
pub data LabelPlace : Type 0 where
  InText : LabelPlace
  BehindBackslash : LabelPlace
  InEntity : List ℕ → LabelPlace

-- a byte that is shown in front of what is shown behind it
abbrev pub shown_before : ℕ → Option (List ℕ) → Option (List ℕ)
shown_before byte None = None
shown_before byte (Some text) = Some (byte ∷ text)

-- the byte that is shown for one behind a backslash: a line feed for `n`, and any other for itself
abbrev pub escaped_byte : ℕ → ℕ
escaped_byte byte = if byte == 110 then 10 else byte

-- What a label shows whose text from a place on is this, up to the quotation mark that closes it, and nothing where
-- none does. Of the entities only the ampersand's is known.
abbrev pub shown_from : LabelPlace → List ℕ → Option (List ℕ)
shown_from place [] = None
shown_from InText (byte ∷ rest) =
    if byte == 34 then Some []
    else (if byte == 92 then shown_from BehindBackslash rest
    else (if byte == 38 then shown_from (InEntity []) rest else shown_before byte (shown_from InText rest)))
shown_from BehindBackslash (byte ∷ rest) = shown_before (escaped_byte byte) (shown_from InText rest)
shown_from (InEntity entity) (byte ∷ rest) =
    if byte == 59 then (if pointwise nat_eq entity (codes "amp") then shown_before 38 (shown_from InText rest) else
    None)
    else shown_from (InEntity (entity ++ byte ∷ [])) rest

-- what stands behind the first quotation mark of a line
abbrev pub behind_quote : List ℕ → List ℕ
behind_quote [] = []
behind_quote (byte ∷ rest) = if byte == 34 then rest else behind_quote rest

-- what the label of a line shows, which stands behind the line's first quotation mark
abbrev pub shown_in : List ℕ → Option (List ℕ)
shown_in line = shown_from InText (behind_quote line)
