-- The lines of a text of which each ends with a line feed, and those of its lines that belong to one number.
use Rattle.std.proofs.Common.{map, cond, length, length-append, ◌≡◌, ℕ, zero, suc, ◌+◌, ◌<◌, ◌≤◌, Bool, true, false}
use Rattle.std.proofs.Common.{List, [], ◌∷◌, ◌++◌}
use Rattle.std.proofs.Common.{refl, ap, ◌∙◌, arith, append_assoc, append-nil, inl, inr}
use Rattle.std.specs.Prelude.{◌==◌, not, codes, if◌then◌else◌, All, filter, ◌⊎◌}
use Rattle.std.proofs.{lemmas.List.Sums.sum_by-cons, lemmas.List.length-map, lemmas.List.Concat.flat_map-append}
use Rattle.std.proofs.{lemmas.List.Folds.list_all-append, lemmas.List.Splits.slice_split_at}
use Rattle.std.specs.List.{sum_by, flat_map, list_all, range_with_len, slice_split}
use Rattle.std.proofs.lemmas.Bool.{and_parts, and_from, eq-eqb, ne_eqb, cases_lt}
use Rattle.std.proofs.lemmas.List.Elements.{All-append, All-nil, All-cons, All-head, All-tail, filter-append}

-- ---- lines without a line feed

-- not a line feed
abbrev pub stays_on_line : ℕ → Bool
stays_on_line byte = not (byte == 10)

abbrev pub IsOneLine : List ℕ → Type 0
IsOneLine line = list_all stays_on_line line ≡ true

pub one_line-append : (front back : List ℕ) → IsOneLine front → IsOneLine back → IsOneLine (front ++ back)
one_line-append front back first second =
    list_all-append stays_on_line front back
    ∙ and_from (list_all stays_on_line front) (list_all stays_on_line back) first second

one_byte : (byte : ℕ) (feed : Bool) → (byte == 10) ≡ feed → not feed ≡ true → feed ≡ false
one_byte byte false is stays = refl
one_byte byte true is stays = absurd cc

no_feeds : (line : List ℕ) → IsOneLine line → All (λ byte. (byte == 10) ≡ false) line
no_feeds [] one = All-nil (λ byte. (byte == 10) ≡ false)
no_feeds (byte ∷ line) one =
    let parts = and_parts (stays_on_line byte) (list_all stays_on_line line) one in
    All-cons (λ byte. (byte == 10) ≡ false) byte line (one_byte byte (byte == 10) refl parts.0) (no_feeds line parts.1)

abbrev with_feed : List ℕ → List ℕ
with_feed line = line ++ codes "\n"

-- what is split at its line feeds gives the lines back, and nothing behind the last of them
pub split_lines : (lines : List (List ℕ)) → All IsOneLine lines
    → slice_split (λ byte. byte == 10) (flat_map with_feed lines) ≡ lines ++ [] ∷ []
split_lines [] all = refl
split_lines (line ∷ lines) all =
    ap (slice_split (λ byte. byte == 10)) (append_assoc line (codes "\n") (flat_map with_feed lines))
    ∙ slice_split_at (λ byte. byte == 10) line 10 (flat_map with_feed lines)
    (no_feeds line (All-head IsOneLine line lines all)) refl
    ∙ ap (λ l. line ∷ l) (split_lines lines (All-tail IsOneLine line lines all))

-- the texts of numbers, each by its lines
pub texts_of_lines : (lines : ℕ → List (List ℕ)) (text : ℕ → List ℕ)
    → ((number : ℕ) → flat_map with_feed (lines number) ≡ text number) → (numbers : List ℕ)
    → flat_map with_feed (flat_map lines numbers) ≡ flat_map text numbers
texts_of_lines lines text each [] = refl
texts_of_lines lines text each (number ∷ numbers) =
    flat_map-append with_feed (lines number) (flat_map lines numbers)
    ∙ ap (λ l. l ++ flat_map with_feed (flat_map lines numbers)) (each number)
    ∙ ap (λ l. text number ++ l) (texts_of_lines lines text each numbers)

-- ---- the lines of one number

module _ (test : List ℕ → Bool) (lines : ℕ → List (List ℕ)) (chosen : List (List ℕ)) (number : ℕ) where
  -- each number but one has no line that passes, and that one has these
  abbrev pub PicksOne : ℕ → ℕ → Type 0
  PicksOne start count =
      (n : ℕ) → start ≤ n → n < start + count → filter test (lines n) ≡ (if number == n then chosen else [])

  pub picks_none : (start count : ℕ) → PicksOne start count → (number < start) ⊎ (start + count ≤ number)
      → filter test (flat_map lines (range_with_len start count)) ≡ []
  picks_none start zero picks out = refl
  picks_none start (suc count) picks out =
      let apart : (number == start) ≡ false = ne_eqb number start (λ same. elim out [
        | inl below ↦ absurd (omega arith)
        | inr above ↦ absurd (omega arith)
      ]) in
      let later : (number < start + 1) ⊎ (start + 1 + count ≤ number) = elim out [
        | inl below ↦ inl (omega arith)
        | inr above ↦ inr (omega arith)
      ] in
      filter-append test (lines start) (flat_map lines (range_with_len (start + 1) count))
      ∙ ap (λ l. l ++ filter test (flat_map lines (range_with_len (start + 1) count)))
      (picks start (omega arith) (omega arith) ∙ ap (λ b. if b then chosen else []) apart)
      ∙ picks_none (start + 1) count (λ n low high. picks n (omega arith) (omega arith)) later

  pub picks_one : (start count : ℕ) → PicksOne start count → start ≤ number → number < start + count
      → filter test (flat_map lines (range_with_len start count)) ≡ chosen
  picks_one start zero picks low high = absurd (omega arith)
  picks_one start (suc count) picks low high =
      let rest = flat_map lines (range_with_len (start + 1) count) in
      let more : PicksOne (start + 1) count = λ n from below. picks n (omega arith) (omega arith) in
      filter-append test (lines start) rest
      ∙ ap (λ l. l ++ filter test rest) (picks start (omega arith) (omega arith))
      ∙ (elim (cases_lt start number) [
        | inl later ↦
            ap (λ b. (if b then chosen else []) ++ filter test rest) (ne_eqb number start (λ same. absurd (omega
            arith)))
            ∙ picks_one (start + 1) count more (omega arith) (omega arith)
        | inr here ↦
            let same : number ≡ start = omega arith in
            ap (λ b. (if b then chosen else []) ++ filter test rest) (eq-eqb number start same)
            ∙ ap (λ l. chosen ++ l) (picks_none (start + 1) count more (inl (omega arith)))
            ∙ append-nil chosen
      ])

-- each line of each number is one line
pub all_of_numbers : (lines : ℕ → List (List ℕ)) (start count : ℕ)
    → ((n : ℕ) → start ≤ n → n < start + count → All IsOneLine (lines n))
    → All IsOneLine (flat_map lines (range_with_len start count))
all_of_numbers lines start zero each = All-nil IsOneLine
all_of_numbers lines start (suc count) each =
    All-append IsOneLine (lines start) (flat_map lines (range_with_len (start + 1) count))
    (each start (omega arith) (omega arith))
    (all_of_numbers lines (start + 1) count (λ n low high. each n (omega arith) (omega arith)))

-- ---- lines that all pass, or none of them

pub filter_all : {A : Type 0} (test : List ℕ → Bool) (line : A → List ℕ) (items : List A)
    → ((item : A) → test (line item) ≡ true) → filter test (map line items) ≡ map line items
filter_all test line [] passes = refl
filter_all test line (item ∷ items) passes =
    ap (λ b. cond b (line item ∷ filter test (map line items)) (filter test (map line items))) (passes item)
    ∙ ap (λ l. line item ∷ l) (filter_all test line items passes)

pub filter_none : {A : Type 0} (test : List ℕ → Bool) (line : A → List ℕ) (items : List A)
    → ((item : A) → test (line item) ≡ false) → filter test (map line items) ≡ []
filter_none test line [] fails = refl
filter_none test line (item ∷ items) fails =
    ap (λ b. cond b (line item ∷ filter test (map line items)) (filter test (map line items))) (fails item)
    ∙ filter_none test line items fails

-- how many lines numbers have that have one each, and that have one more for each of their items
pub length-singles : (line : ℕ → List ℕ) (start count : ℕ)
    → length (flat_map (λ n. line n ∷ []) (range_with_len start count)) ≡ count
length-singles line start zero = refl
length-singles line start (suc count) = ap suc (length-singles line (start + 1) count)

pub length-headed : {A : Type 0} (head : ℕ → List ℕ) (line : ℕ → A → List ℕ) (items : ℕ → List A) (start count : ℕ)
    → length (flat_map (λ n. head n ∷ map (line n) (items n)) (range_with_len start count))
    ≡ count + sum_by (λ n. length (items n)) (range_with_len start count)
length-headed head line items start zero = refl
length-headed head line items start (suc count) =
    let rest = flat_map (λ n. head n ∷ map (line n) (items n)) (range_with_len (start + 1) count) in
    let more : length rest ≡ count + sum_by (λ n. length (items n)) (range_with_len (start + 1) count) =
    length-headed head line items (start + 1) count in
    omega (
      arith,
      more,
      length-append (map (line start) (items start)) rest,
      length-map (items start) (line start),
      sum_by-cons (λ n. length (items n)) start (range_with_len (start + 1) count),
    )
