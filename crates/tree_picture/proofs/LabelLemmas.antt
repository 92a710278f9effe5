-- What a label shows of the text that is written in it.
use Rattle.std.proofs.Common.{◌≡◌, ℕ, Bool, true, false, List, [], ◌∷◌, ◌++◌, Option, Some, refl, sym, ap, ◌∙◌}
use Rattle.std.proofs.Common.{append_assoc, arith}
use Rattle.std.specs.Prelude.{◌==◌, ◌&&◌, not, codes, if◌then◌else◌}
use Rattle.std.specs.{Char.is_ascii_digit, List.list_all, Str.all_ascii_digits}
use Rattle.std.proofs.lemmas.Bool.{and_parts, eqb-true}
use Rattle.tree_picture.specs.Labels.{InText, behind_quote, label_byte, label_text, shown_before, shown_from}

-- a text that is shown, in front of what is shown behind it
abbrev pub shown_in_front : List ℕ → Option (List ℕ) → Option (List ℕ)
shown_in_front [] shown = shown
shown_in_front (byte ∷ text) shown = shown_before byte (shown_in_front text shown)

pub in_front_of_some : (text more : List ℕ) → shown_in_front text (Some more) ≡ Some (text ++ more)
in_front_of_some [] more = refl
in_front_of_some (byte ∷ text) more = ap (shown_before byte) (in_front_of_some text more)

-- ---- a byte as it is written in a label

byte_shown : (byte : ℕ) (rest : List ℕ) (quote backslash ampersand : Bool) → (byte == 34) ≡ quote
    → (byte == 92) ≡ backslash → (byte == 38) ≡ ampersand
    → shown_from InText ((if quote then codes "\\\"" else (if backslash then codes "\\\\"
    else (if ampersand then codes "&amp;" else byte ∷ []))) ++ rest)
    ≡ shown_before byte (shown_from InText rest)
byte_shown byte rest true backslash ampersand quote slash amp =
    ap (λ b. shown_before b (shown_from InText rest)) (sym (eqb-true byte 34 quote))
byte_shown byte rest false true ampersand quote slash amp =
    ap (λ b. shown_before b (shown_from InText rest)) (sym (eqb-true byte 92 slash))
byte_shown byte rest false false true quote slash amp =
    ap (λ b. shown_before b (shown_from InText rest)) (sym (eqb-true byte 38 amp))
byte_shown byte rest false false false quote slash amp = simp (quote, slash, amp)

label_byte_shown : (byte : ℕ) (rest : List ℕ) → shown_from InText (label_byte byte ++ rest)
    ≡ shown_before byte (shown_from InText rest)
label_byte_shown byte rest = byte_shown byte rest (byte == 34) (byte == 92) (byte == 38) refl refl refl

pub label_text_shown : (text rest : List ℕ) → shown_from InText (label_text text ++ rest)
    ≡ shown_in_front text (shown_from InText rest)
label_text_shown [] rest = refl
label_text_shown (byte ∷ text) rest =
    ap (shown_from InText) (append_assoc (label_byte byte) (label_text text) rest)
    ∙ label_byte_shown byte (label_text text ++ rest)
    ∙ ap (shown_before byte) (label_text_shown text rest)

-- ---- a text that means nothing else in a label

abbrev pub is_plain : ℕ → Bool
is_plain byte = not (byte == 34) && (not (byte == 92) && not (byte == 38))

plain_byte_shown : (byte : ℕ) (rest : List ℕ) (quote backslash ampersand : Bool) → (byte == 34) ≡ quote
    → (byte == 92) ≡ backslash → (byte == 38) ≡ ampersand
    → (not quote && (not backslash && not ampersand)) ≡ true
    → shown_from InText (byte ∷ rest) ≡ shown_before byte (shown_from InText rest)
plain_byte_shown byte rest true backslash ampersand quote slash amp plain = absurd cc
plain_byte_shown byte rest false true ampersand quote slash amp plain = absurd cc
plain_byte_shown byte rest false false true quote slash amp plain = absurd cc
plain_byte_shown byte rest false false false quote slash amp plain = simp (quote, slash, amp)

pub plain_shown : (text rest : List ℕ) → list_all is_plain text ≡ true
    → shown_from InText (text ++ rest) ≡ shown_in_front text (shown_from InText rest)
plain_shown [] rest plain = refl
plain_shown (byte ∷ text) rest plain =
    let parts = and_parts (is_plain byte) (list_all is_plain text) plain in
    plain_byte_shown byte (text ++ rest) (byte == 34) (byte == 92) (byte == 38) refl refl refl parts.0
    ∙ ap (shown_before byte) (plain_shown text rest parts.1)

-- ---- behind the first quotation mark

digit_is_no_quote : (byte : ℕ) → is_ascii_digit byte ≡ true → (byte == 34) ≡ false
digit_is_no_quote byte digit = grind arith

pub behind_digits : (digits rest : List ℕ) → all_ascii_digits digits ≡ true
    → behind_quote (digits ++ rest) ≡ behind_quote rest
behind_digits [] rest each = refl
behind_digits (digit ∷ digits) rest each =
    let parts = and_parts (is_ascii_digit digit) (all_ascii_digits digits) each in
    ap (λ b. if b then digits ++ rest else behind_quote (digits ++ rest)) (digit_is_no_quote digit parts.0)
    ∙ behind_digits digits rest parts.1
