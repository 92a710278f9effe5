-- Shown names tell where they end: no shown name with a blank behind it begins another.
use Rattle.std.specs.Prelude.{◌≡◌, ℕ, Bool, true, false, not, ◌==◌, ◌&&◌, nat_le, if◌then◌else◌, List, [], ◌∷◌, ◌++◌}
use Rattle.std.specs.Prelude.{length, drop, codes}
use Rattle.std.specs.List.{list_all}
use Rattle.std.proofs.Common.{refl, sym, ap, ◌∙◌, true≢false, append_assoc, get_or, eq-eqb}
use Rattle.std.proofs.lemmas.Bool.{and_parts, and_from, eqb-true}
use Rattle.fault_words.specs.Name.{is_name, is_name_byte, is_bare_name, is_bare_start, is_bare_byte}
use Rattle.text_pieces.specs.Shown.{show}

-- no byte is this one
abbrev pub avoids : ℕ → List ℕ → Bool
avoids mark bytes = list_all (λ byte. not (byte == mark)) bytes

pub cancelled : (front : List ℕ) {a b : List ℕ} → front ++ a ≡ front ++ b → a ≡ b
cancelled [] e = e
cancelled (byte ∷ front) e = cancelled front (ap (drop 1) e)

not_mark : {P : Type 0} {byte mark : ℕ} → not (byte == mark) ≡ true → byte ≡ mark → P
not_mark {byte} {mark} e same = absurd (true≢false (sym e ∙ ap not (eq-eqb byte mark same)))

-- two texts up to a mark that neither has
pub up_to_mark : (mark : ℕ) (a b : List ℕ) {rest other : List ℕ} → avoids mark a ≡ true → avoids mark b ≡ true
    → a ++ mark ∷ rest ≡ b ++ mark ∷ other → (a ≡ b) × (rest ≡ other)
up_to_mark mark [] [] no_a no_b e = (refl, ap (drop 1) e)
up_to_mark mark [] (y ∷ ys) no_a no_b e =
    not_mark (and_parts (not (y == mark)) (avoids mark ys) no_b).0 (sym (ap (λ l. get_or l 0 0) e))
up_to_mark mark (x ∷ xs) [] no_a no_b e =
    not_mark (and_parts (not (x == mark)) (avoids mark xs) no_a).0 (ap (λ l. get_or l 0 0) e)
up_to_mark mark (x ∷ xs) (y ∷ ys) no_a no_b e =
    let more =
    up_to_mark mark xs ys (and_parts (not (x == mark)) (avoids mark xs) no_a).1
    (and_parts (not (y == mark)) (avoids mark ys) no_b).1 (ap (drop 1) e) in
    let first : x ≡ y = ap (λ l. get_or l 0 0) e in
    (ap (λ z. z ∷ xs) first ∙ ap (λ zs. y ∷ zs) more.0, more.1)

-- ---- the bytes of names

avoids_by : (test : ℕ → Bool) (mark : ℕ) → test mark ≡ false → (bytes : List ℕ) → list_all test bytes ≡ true
    → avoids mark bytes ≡ true
avoids_by test mark none [] all = refl
avoids_by test mark none (byte ∷ bytes) all =
    let parts = and_parts (test byte) (list_all test bytes) all in
    and_from (not (byte == mark)) (avoids mark bytes) (other (byte == mark) refl parts.0)
    (avoids_by test mark none bytes parts.1)
  where
    same_byte : (byte == mark) ≡ true → byte ≡ mark
    same_byte e = eqb-true byte mark e

    other : (b : Bool) → (byte == mark) ≡ b → test byte ≡ true → not (byte == mark) ≡ true
    other true same passes = absurd (true≢false (sym passes ∙ ap test (same_byte same) ∙ none))
    other false apart passes = ap not apart

pub no_quote : (name : List ℕ) → is_name name ≡ true → avoids 34 name ≡ true
no_quote name e =
    avoids_by is_name_byte 34 refl name (and_parts (nat_le 1 (length name) && nat_le (length name) 255)
    (list_all is_name_byte name) e).1

-- a bare name has no blank, and doesn't begin with a quotation mark
pub no_blank : (name : List ℕ) → is_bare_name name ≡ true → avoids 32 name ≡ true
no_blank [] e = refl
no_blank (first ∷ rest) e =
    let parts = and_parts (is_bare_start first) (list_all is_bare_byte rest) e in
    and_from (not (first == 32)) (avoids 32 rest)
    (and_parts (not (first == 32)) true (avoids_by is_bare_start 32 refl (first ∷ [])
    (and_from (is_bare_start first) true parts.0 refl))).0
    (avoids_by is_bare_byte 32 refl rest parts.1)

pub bare_first : {P : Type 0} (name rest : List ℕ) {other : List ℕ} → is_bare_name name ≡ true
    → name ++ rest ≡ 34 ∷ other → P
bare_first [] rest e same = absurd cc
bare_first (first ∷ more) rest e same =
    let start = (and_parts (is_bare_start first) (list_all is_bare_byte more) e).0 in
    let quote : first ≡ 34 = ap (λ l. get_or l 0 0) same in
    absurd (true≢false (sym start ∙ ap is_bare_start quote))

-- ---- shown names

shown_bare : (name rest : List ℕ) → is_bare_name name ≡ true → show name ++ rest ≡ name ++ rest
shown_bare name rest e = ap (λ b. (if b then name else codes "\"" ++ name ++ codes "\"") ++ rest) e

shown_quoted : (name rest : List ℕ) → is_bare_name name ≡ false → show name ++ rest ≡ 34 ∷ (name ++ 34 ∷ rest)
shown_quoted name rest e =
    ap (λ b. (if b then name else codes "\"" ++ name ++ codes "\"") ++ rest) e
    ∙ ap (λ l. 34 ∷ l) (append_assoc name (34 ∷ []) rest)

pub shown_apart : {a b : List ℕ} (rest other : List ℕ) → is_name a ≡ true → is_name b ≡ true
    → show a ++ 32 ∷ rest ≡ show b ++ 32 ∷ other → a ≡ b
shown_apart {a} {b} rest other name_a name_b e = by_form (is_bare_name a) (is_bare_name b) refl refl
  where
    by_form : (bare_a bare_b : Bool) → is_bare_name a ≡ bare_a → is_bare_name b ≡ bare_b → a ≡ b
    by_form true true is_a is_b =
        (up_to_mark 32 a b (no_blank a is_a) (no_blank b is_b)
        (sym (shown_bare a (32 ∷ rest) is_a) ∙ e ∙ shown_bare b (32 ∷ other) is_b)).0
    by_form true false is_a is_b =
        bare_first a (32 ∷ rest) is_a (sym (shown_bare a (32 ∷ rest) is_a) ∙ e ∙ shown_quoted b (32 ∷ other) is_b)
    by_form false true is_a is_b =
        bare_first b (32 ∷ other) is_b (sym (shown_bare b (32 ∷ other) is_b) ∙ sym e ∙ shown_quoted a (32 ∷ rest) is_a)
    by_form false false is_a is_b =
        (up_to_mark 34 a b (no_quote a name_a) (no_quote b name_b)
        (ap (drop 1) (sym (shown_quoted a (32 ∷ rest) is_a) ∙ e ∙ shown_quoted b (32 ∷ other) is_b))).0
