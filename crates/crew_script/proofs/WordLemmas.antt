-- What the words of a line are, run by run.
use Rattle.std.proofs.Common.{◌≡◌, ℕ, ◌+◌, ◌<◌, true, false, List, [], ◌∷◌, ◌++◌, length, take, drop, cond}
use Rattle.std.proofs.Common.{sym, refl, ap, ◌∙◌, arith, append_assoc, append-nil, inl, inr, ◌≤◌, suc}
use Rattle.std.specs.List.{prefix_len, position_or_len}
use Rattle.std.proofs.lemmas.Bool.{cases_Bool, not-true}
use Rattle.crew_script.specs.Words.{InBare, InQuotes, Closed, words, words_of, is_blank, is_quote, bare, quoted, broken}
use Rattle.crew_script.specs.Words.{parts, begins_bare, begins_blank}

pub blank_skipped : (byte : ℕ) (bytes : List ℕ) → is_blank byte ≡ true → words_of (byte ∷ bytes) ≡ words_of bytes
blank_skipped byte bytes hit = rw hit refl

-- blanks between words say nothing
pub blanks_skipped : (bytes : List ℕ) → words_of (drop (prefix_len is_blank bytes) bytes) ≡ words_of bytes
blanks_skipped [] = refl
blanks_skipped (byte ∷ bytes) = elim (cases_Bool (is_blank byte)) [
  | inl hit ↦
      let on : 1 + prefix_len is_blank bytes ≡ suc (prefix_len is_blank bytes) = omega arith in
      rw hit (ap (λ n. words_of (drop n (byte ∷ bytes))) on ∙ blanks_skipped bytes)
  | inr miss ↦ ap (λ n. words_of (drop n (byte ∷ bytes))) (ap (λ b. cond b (1 + prefix_len is_blank bytes) 0) miss)
]

-- and what is left begins with none
pub blanks_gone : (bytes : List ℕ) → begins_blank (drop (prefix_len is_blank bytes) bytes) ≡ false
blanks_gone [] = refl
blanks_gone (byte ∷ bytes) = elim (cases_Bool (is_blank byte)) [
  | inl hit ↦
      let on : 1 + prefix_len is_blank bytes ≡ suc (prefix_len is_blank bytes) = omega arith in
      rw hit (ap (λ n. begins_blank (drop n (byte ∷ bytes))) on ∙ blanks_gone bytes)
  | inr miss ↦ rw miss miss
]

-- a bare word goes up to the next blank
pub bare_on : (text bytes : List ℕ) → words (InBare text) bytes
    ≡ bare (text ++ take (position_or_len is_blank bytes) bytes)
    ∷ words_of (drop (position_or_len is_blank bytes) bytes)
bare_on text [] = ap (λ t. bare t ∷ []) (sym (append-nil text))
bare_on text (byte ∷ bytes) = elim (cases_Bool (is_blank byte)) [
  | inl hit ↦
      rw hit (ap (λ t. bare t ∷ words_of bytes) (sym (append-nil text))
      ∙ ap (λ l. bare (text ++ []) ∷ l) (sym (blank_skipped byte bytes hit)))
  | inr miss ↦
      let place = position_or_len is_blank bytes in
      let on : suc place ≡ 1 + place = omega arith in
      rw miss
      (bare_on (text ++ byte ∷ []) bytes
      ∙ ap (λ t. bare t ∷ words_of (drop place bytes)) (append_assoc text (byte ∷ []) (take place bytes))
      ∙ ap (λ n. bare (text ++ take n (byte ∷ bytes)) ∷ words_of (drop n (byte ∷ bytes))) on)
]

pub bare_from : (bytes : List ℕ) → begins_bare bytes ≡ true → begins_blank bytes ≡ false
    → words_of bytes ≡ bare (take (position_or_len is_blank bytes) bytes)
    ∷ words_of (drop (position_or_len is_blank bytes) bytes)
bare_from [] begins no_blank = absurd cc
bare_from (byte ∷ bytes) begins no_blank =
    let place = position_or_len is_blank bytes in
    let on : suc place ≡ 1 + place = omega arith in
    let unquoted : is_quote byte ≡ false = not-true (is_quote byte) begins in
    rw (no_blank, unquoted) (bare_on (byte ∷ []) bytes
    ∙ ap (λ n. bare (take n (byte ∷ bytes)) ∷ words_of (drop n (byte ∷ bytes))) on)

-- a quoted word goes up to the next quotation mark
pub quoted_on : (text bytes : List ℕ) → position_or_len is_quote bytes < length bytes
    → words (InQuotes text) bytes ≡ words (Closed (text ++ take (position_or_len is_quote bytes) bytes))
    (drop (position_or_len is_quote bytes + 1) bytes)
quoted_on text [] within = absurd (omega (arith, within))
quoted_on text (byte ∷ bytes) within = elim (cases_Bool (is_quote byte)) [
  | inl hit ↦ rw hit (ap (λ t. words (Closed t) bytes) (sym (append-nil text)))
  | inr miss ↦
      let place = position_or_len is_quote bytes in
      let few = rw miss at within in
      let on : suc place ≡ 1 + place = omega arith in
      let past : suc (place + 1) ≡ 1 + place + 1 = omega arith in
      rw miss
      (quoted_on (text ++ byte ∷ []) bytes (omega (arith, few))
      ∙ ap (λ t. words (Closed t) (drop (place + 1) bytes)) (append_assoc text (byte ∷ []) (take place bytes))
      ∙ ap (λ n. words (Closed (text ++ take n (byte ∷ bytes))) (drop (place + 1) bytes)) on
      ∙ ap (λ n. words (Closed (text ++ take (1 + place) (byte ∷ bytes))) (drop n (byte ∷ bytes))) past)
]

pub quoted_open : (text bytes : List ℕ) → length bytes ≤ position_or_len is_quote bytes
    → words (InQuotes text) bytes ≡ broken ∷ []
quoted_open text [] none = refl
quoted_open text (byte ∷ bytes) none = elim (cases_Bool (is_quote byte)) [
  | inl hit ↦ let few = rw hit at none in absurd (omega (arith, few))
  | inr miss ↦ let few = rw miss at none in rw miss (quoted_open (text ++ byte ∷ []) bytes (omega (arith, few)))
]

-- behind a quoted word stands a blank, or the line ends
pub closed_parts : (text bytes : List ℕ) → parts bytes ≡ true → words (Closed text) bytes ≡ quoted text ∷ words_of bytes
closed_parts text [] here = refl
closed_parts text (byte ∷ bytes) here = rw here refl
