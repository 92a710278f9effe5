-- The word that is written for a gate says its kind.
use Rattle.std.proofs.Common.{◌≡◌, ℕ, suc, ◌+◌, ◌-◌, ◌*◌, ◌/◌, ◌%◌, ◌<◌, ◌≤◌, Bool, true, false, cond, List, [], ◌∷◌}
use Rattle.std.proofs.Common.{◌++◌, length, take, drop, Some, None, refl, sym, ap, ◌∙◌, arith, length-append, le-leb}
use Rattle.std.specs.Prelude.{◌&&◌, codes, decimal, nat_eq, nat_lt, nat_le, if◌then◌else◌}
use Rattle.std.specs.{List.list_all, List.prefix_len, Char.is_ascii_digit, Char.to_ascii_lowercase}
use Rattle.std.specs.Str.{bytes_eq, str_eq_ignore_ascii_case, str_to_ascii_lowercase}
use Rattle.std.proofs.lemmas.Bool.{and_from, and_left, and_parts}
use Rattle.std.proofs.{lemmas.Fmt.decimal_by_steps, lemmas.Fmt.length-decimal-le, lemmas.List.take_at}
use Rattle.std.proofs.{lemmas.List.Folds.list_all-append, lemmas.List.Prefix.front_rest}
use Rattle.fault_words.specs.{declared.kind.GateKind.GateKind, declared.kind.GateKind.TheVariants.Votes}
use Rattle.galileo_lexer.specs.{Bytes.is_word_byte, Pieces.IsNameText}
use Rattle.galileo_tree.specs.ReadTree.{HasShortNumbers}
use Rattle.decimal_numerals.specs.Numeral.{number_from, are_digits}
use Rattle.galileo_tree.specs.GateWord.{votes_behind, votes_if, votes_of, gate_word as kind_in}
use Rattle.text_pieces.specs.GateWords.{gate_word}

-- ---- a number's digits

-- the digits of a number
record Writes (n : ℕ) (digits : List ℕ) : Type 0 where
  each : list_all is_ascii_digit digits ≡ true
  number : number_from 0 digits ≡ n
  some : 0 < length digits

number_from-push : (number : ℕ) (digits : List ℕ) (digit : ℕ)
    → number_from number (digits ++ digit ∷ []) ≡ 10 * number_from number digits + (digit - 48)
number_from-push number [] digit = refl
number_from-push number (d ∷ digits) digit = number_from-push (10 * number + (d - 48)) digits digit

digit_is : (n : ℕ) → n < 10 → is_ascii_digit (48 + n) ≡ true
digit_is n small = grind arith

list_all-both : (test : ℕ → Bool) (front back : List ℕ) → list_all test front ≡ true → list_all test back ≡ true
    → list_all test (front ++ back) ≡ true
list_all-both test front back first second = list_all-append test front back
    ∙ and_from (list_all test front) (list_all test back) first second

one_digit : (n : ℕ) → n < 10 → Writes n ((48 + n) ∷ [])
one_digit n small = record {
  each = and_from (is_ascii_digit (48 + n)) true (digit_is n small) refl;
  number = omega arith;
  some = omega arith;
}

more_digits : (n : ℕ) (digits : List ℕ) → 10 ≤ n → Writes (n / 10) digits → Writes n (digits ++ ((48 + n % 10) ∷ []))
more_digits n digits large is =
    let low : n % 10 < 10 = omega arith in
    record {
      each = list_all-both is_ascii_digit digits ((48 + n % 10) ∷ []) is.each
          (and_from (is_ascii_digit (48 + n % 10)) true (digit_is (n % 10) low) refl);
      number = number_from-push 0 digits (48 + n % 10) ∙ (let front = is.number in omega arith);
      some = omega (arith, length-append digits ((48 + n % 10) ∷ []));
    }

-- at most nine digits
few_digits : (n : ℕ) → n ≤ 999999999 → Writes n (decimal n) × (length (decimal n) ≤ 9)
few_digits n small = (
  decimal_by_steps Writes one_digit more_digits n (omega arith),
  length-decimal-le 9 n
      (omega arith) (omega arith) (omega arith),
)

digits_are : (n : ℕ) → n ≤ 999999999 → are_digits 9 (decimal n) ≡ true
digits_are n small =
    let is = few_digits n small in
    and_from (nat_le 1 (length (decimal n)) && nat_le (length (decimal n)) 9) (list_all is_ascii_digit (decimal n))
    (and_from (nat_le 1 (length (decimal n))) (nat_le (length (decimal n)) 9) (le-leb 1 (length (decimal n)) is.0.some)
    (le-leb (length (decimal n)) 9 is.1))
    is.0.each

-- ---- K, `of` and N

prefix_is : (digits : List ℕ) (byte : ℕ) (rest : List ℕ) → list_all is_ascii_digit digits ≡ true
    → is_ascii_digit byte ≡ false
    → prefix_len is_ascii_digit (digits ++ byte ∷ rest) ≡ length digits
prefix_is [] byte rest each other = ap (λ b. cond b (1 + prefix_len is_ascii_digit rest) 0) other
prefix_is (digit ∷ digits) byte rest each other =
    let parts = and_parts (is_ascii_digit digit) (list_all is_ascii_digit digits) each in
    let more : 1 + prefix_len is_ascii_digit (digits ++ byte ∷ rest) ≡ suc (length digits) =
    omega (arith, prefix_is digits byte rest parts.1 other) in
    ap (λ b. cond b (1 + prefix_len is_ascii_digit (digits ++ byte ∷ rest)) 0) parts.0 ∙ more

votes_parts : (front back : List ℕ) → are_digits 9 front ≡ true → are_digits 9 back ≡ true
    → votes_if front (codes "of") back ≡ Some (Votes (number_from 0 front) (number_from 0 back))
votes_parts front back first second =
    ap (λ b. if b && true && are_digits 9 back then Some
    (Votes (number_from 0 front) (number_from 0 back)) else None) first
    ∙ ap (λ b. if b then Some (Votes (number_from 0 front) (number_from 0 back)) else None) second

votes_two : (front back : List ℕ) → votes_behind front (codes "of" ++ back) ≡ votes_if front (codes "of") back
votes_two front back =
    let two : nat_lt (length (codes "of" ++ back)) 2 ≡ false = grind arith in
    ap (λ b. if b then None else votes_if front (codes "of") back) two

votes_split : {size : ℕ} (word front back : List ℕ) → length front ≡ size → word ≡ front ++ (codes "of" ++ back)
    → prefix_len is_ascii_digit word ≡ size
    → votes_of word ≡ votes_if front (codes "of") back
votes_split {size} word front back long is prefix =
    let behind : List ℕ = codes "of" ++ back in
    let taken : take size word ≡ front = ap (take size) is ∙ take_at front behind size long in
    let dropped : drop size word ≡ behind = ap (λ n. drop n word) (sym long) ∙ front_rest word front behind is in
    ap (λ n. votes_behind (take n word) (drop n word)) prefix
    ∙ ap (λ t. votes_behind t (drop size word)) taken
    ∙ ap (votes_behind front) dropped
    ∙ votes_two front back

number_kind : (least of : ℕ) → least ≤ 999999999 → of ≤ 999999999
    → votes_of (gate_word (Votes least of)) ≡ Some (Votes least of)
number_kind least of few enough =
    let front = few_digits least few in
    let back = few_digits of enough in
    votes_split (gate_word (Votes least of)) (decimal least) (decimal of) refl refl
    (prefix_is (decimal least) 111 (102 ∷ decimal of) front.0.each refl)
    ∙ votes_parts (decimal least) (decimal of) (digits_are least few) (digits_are of enough)
    ∙ ap (λ k. Some (Votes k (number_from 0 (decimal of)))) front.0.number
    ∙ ap (λ n. Some (Votes least n)) back.0.number

-- ---- no digit begins another gate word

other_letter : (digit letter : ℕ) → is_ascii_digit digit ≡ true → 97 ≤ letter
    → nat_eq (to_ascii_lowercase digit) (to_ascii_lowercase letter) ≡ false
other_letter digit letter is low = grind arith

other_word : (digit : ℕ) (digits : List ℕ) (letter : ℕ) (letters : List ℕ) → is_ascii_digit digit ≡ true → 97 ≤ letter
    → str_eq_ignore_ascii_case (digit ∷ digits) (letter ∷ letters) ≡ false
other_word digit digits letter letters is low =
    and_left (nat_eq (to_ascii_lowercase digit) (to_ascii_lowercase letter))
    (bytes_eq (str_to_ascii_lowercase digits) (str_to_ascii_lowercase letters))
    (other_letter digit letter is low)

abbrev Others : List ℕ → List (List ℕ) → Type 0
Others word [] = Unit {0}
Others word (other ∷ others) = (str_eq_ignore_ascii_case word other ≡ false) × Others word others

only_votes : (word : List ℕ) → Others word
    (codes "and" ∷ codes "or" ∷ codes "pand" ∷ codes "por" ∷ codes "seq" ∷ codes "fdep" ∷ codes "csp" ∷ codes "wsp"
    ∷ codes "hsp" ∷ [])
    → kind_in word ≡ votes_of word
unfolding kind_in
only_votes word others = rw (
  others.0,
  others.1.0,
  others.1.1.0,
  others.1.1.1.0,
  others.1.1.1.1.0,
  others.1.1.1.1.1.0,
  others.1.1.1.1.1.1.0,
  others.1.1.1.1.1.1.1.0,
  others.1.1.1.1.1.1.1.1.0,
) refl

no_others : (digit : ℕ) (digits : List ℕ) → is_ascii_digit digit ≡ true
    → Others (digit ∷ digits)
    (codes "and" ∷ codes "or" ∷ codes "pand" ∷ codes "por" ∷ codes "seq" ∷ codes "fdep" ∷ codes "csp" ∷ codes "wsp"
    ∷ codes "hsp" ∷ [])
no_others digit digits is =
    let no : (letter : ℕ) (letters : List ℕ) → 97 ≤ letter → str_eq_ignore_ascii_case (digit ∷ digits)
    (letter ∷ letters) ≡ false =
    λ letter letters low. other_word digit digits letter letters is low in (
      no 97 (codes "nd") (omega arith),
      (
        no 111 (codes "r") (omega arith),
        (
          no 112 (codes "and") (omega arith),
          (
            no 112 (codes "or") (omega arith),
            (
              no 115 (codes "eq") (omega arith),
              (
                no 102 (codes "dep") (omega arith),
                (
                  no 99 (codes "sp") (omega arith),
                  (
                    no 119 (codes "sp") (omega arith),
                    (no 104 (codes "sp") (omega arith), tt),
                  ),
                ),
              ),
            ),
          ),
        ),
      ),
    )

votes_alone : (digits rest : List ℕ) → list_all is_ascii_digit digits ≡ true → 0 < length digits
    → kind_in (digits ++ rest) ≡ votes_of (digits ++ rest)
votes_alone [] rest each some = absurd (omega arith)
votes_alone (digit ∷ digits) rest each some =
    only_votes (digit ∷ (digits ++ rest))
    (no_others digit (digits ++ rest) (and_parts (is_ascii_digit digit) (list_all is_ascii_digit digits) each).0)

-- ---- every gate word

pub gate_word_said : (kind : GateKind) → HasShortNumbers kind → kind_in (gate_word kind) ≡ Some kind
unfolding kind_in
gate_word_said (Votes least of) short =
    let front = few_digits least short.0 in
    votes_alone (decimal least) (codes "of" ++ decimal of) front.0.each front.0.some
    ∙ number_kind least of short.0 short.1
gate_word_said _ short = refl

digit_in_word : (byte : ℕ) → is_ascii_digit byte ≡ true → is_word_byte byte ≡ true
unfolding is_word_byte
digit_in_word byte is = grind arith

digits_in_word : (digits : List ℕ) → list_all is_ascii_digit digits ≡ true → list_all is_word_byte digits ≡ true
digits_in_word [] each = refl
digits_in_word (digit ∷ digits) each =
    let parts = and_parts (is_ascii_digit digit) (list_all is_ascii_digit digits) each in
    and_from (is_word_byte digit) (list_all is_word_byte digits) (digit_in_word digit parts.0)
    (digits_in_word digits parts.1)

of_in_word : list_all is_word_byte (codes "of") ≡ true
unfolding is_word_byte
of_in_word = refl

pub gate_word_text : (kind : GateKind) → HasShortNumbers kind → IsNameText is_word_byte (gate_word kind)
unfolding is_word_byte
gate_word_text (Votes least of) short =
    let front = few_digits least short.0 in
    let back = few_digits of short.1 in
    let size : length (decimal least ++ (codes "of" ++ decimal of)) ≡ length (decimal least) +
    (2 + length (decimal of)) =
    omega (arith, length-append (decimal least) (codes "of" ++ decimal of)) in
    record {
      some = let some = front.0.some in omega (arith, size);
      few = let first = front.1 in let second = back.1 in omega (arith, size);
      each = list_all-both is_word_byte (decimal least) (codes "of" ++ decimal of)
          (digits_in_word (decimal least) front.0.each)
          (list_all-both is_word_byte (codes "of") (decimal of) of_in_word (digits_in_word (decimal of) back.0.each));
    }
gate_word_text _ short = record { some = omega arith; few = omega arith; each = refl }
