-- Which words say a number.
use Rattle.std.specs.Prelude.{◌≡◌, ℕ, zero, suc, ◌+◌, ◌-◌, ◌*◌, ◌^◌, ◌<◌, ◌≤◌, Bool, true, false, ◌&&◌, not, nat_le}
use Rattle.std.specs.Prelude.{if◌then◌else◌, List, [], ◌∷◌, length, decimal, Option, Some, None, unwrap_or}
use Rattle.std.specs.{List.list_all, Char.is_ascii_digit}
use Rattle.std.proofs.Common.{refl, arith, sym, ap, ◌∙◌, subst, get_or}
use Rattle.std.proofs.lemmas.Bool.{and_parts, and_from, leb-true, le-leb, eqb-false, not-true, ne_eqb}
use Rattle.std.proofs.lemmas.Str.Parse.{IsNumeralModel, IsDigitsTest, FoldsDigits, numerals_by_fold, digits_value_short}
use Rattle.std.proofs.lemmas.Fmt.{decimal-digits_value, digits_decimal, digits_value-decimal, decimal_nonempty}
use Rattle.std.proofs.lemmas.Fmt.{first_decimal, length-decimal-le, decimal_digit}
use Rattle.decimal_numerals.specs.Numeral.{has_leading_zero, is_numeral, number_from}
use Rattle.board_words.specs.Number.{number_within}

pub some_if : {X : Type 0} (b : Bool) (o : Option X) (x : X) → (if b then o else None) ≡ Some x
    → (b ≡ true) × (o ≡ Some x)
some_if true o x e = (refl, e)
some_if false o x e = absurd cc

pub some_is : (m n : ℕ) → Some m ≡ Some n → m ≡ n
some_is m n e = ap (λ o. unwrap_or o 0) e

-- ---- digits

AreDigits : List ℕ → Type 0
AreDigits word = list_all is_ascii_digit word ≡ true

tells : IsDigitsTest AreDigits
unfolding AreDigits
tells = record {
  empty = refl;
  parts = λ c cs e.
      let k = and_parts (is_ascii_digit c) (list_all is_ascii_digit cs) e in
      let m = and_parts (nat_le 48 c) (nat_le c 57) k.0 in
      ((leb-true 48 c m.0, leb-true c 57 m.1), k.1);
  more =
      λ c cs k e. and_from (is_ascii_digit c) (list_all is_ascii_digit cs)
      (and_from (nat_le 48 c) (nat_le c 57) (le-leb 48 c k.0) (le-leb c 57 k.1)) e;
}

folds : FoldsDigits number_from
folds =
    record {
      empty = λ n. refl;
      more = λ n c cs k. let same : 10 * n + (c - 48) ≡ n * 10 + (c - 48) = omega arith in
          ap (λ m. number_from m cs) same;
    }

own : IsNumeralModel AreDigits (number_from 0)
own = numerals_by_fold AreDigits tells number_from folds

-- ---- a numeral is the decimal of its number

no_zero : (word : List ℕ) → has_leading_zero word ≡ false → 0 < length word → get_or word 0 0 ≡ 48 → length word ≡ 1
no_zero [] e some first = absurd (omega (arith, some))
no_zero (first ∷ []) e some lead = refl
no_zero (first ∷ second ∷ rest) e some lead = absurd (eqb-false first 48 e lead)

-- what a numeral has
record Numeral (word : List ℕ) : Type 0 where
  digits : AreDigits word
  some : 1 ≤ length word
  few : length word ≤ 6
  first : has_leading_zero word ≡ false

numeral_parts : (word : List ℕ) → is_numeral 6 word ≡ true → Numeral word
unfolding AreDigits
numeral_parts word e =
    let last =
    and_parts (nat_le 1 (length word) && nat_le (length word) 6 && list_all is_ascii_digit word)
    (not (has_leading_zero word)) e in
    let three = and_parts (nat_le 1 (length word) && nat_le (length word) 6) (list_all is_ascii_digit word) last.0 in
    let two = and_parts (nat_le 1 (length word)) (nat_le (length word) 6) three.0 in
    record {
      digits = three.1;
      some = leb-true 1 (length word) two.0;
      few = leb-true (length word) 6 two.1;
      first = not-true (has_leading_zero word) last.1;
    }

written : (word : List ℕ) → is_numeral 6 word ≡ true → decimal (number_from 0 word) ≡ word
written word e =
    let parts = numeral_parts word e in
    let small = digits_value_short own word 6 parts.digits parts.few in
    decimal-digits_value own word parts.digits (omega (arith, parts.some))
    (no_zero word parts.first (omega (arith, parts.some))) (omega (arith, small))

-- ---- a decimal is a numeral

leads_not : (word : List ℕ) → (1 < length word → 48 < get_or word 0 0) → has_leading_zero word ≡ false
leads_not [] high = refl
leads_not (first ∷ []) high = refl
leads_not (first ∷ second ∷ rest) high =
    let more : 48 < first = high (omega arith) in ne_eqb first 48 (λ e. absurd (omega (arith, e, more)))

one_long : (n : ℕ) → n < 2 ^ 64 → 1 < length (decimal n) → 0 < n
one_long zero small long =
    let short : length (decimal 0) ≡ 1 = ap length (decimal_digit 0 (omega arith)) in
    absurd (omega (arith, long, short))
one_long (suc n) small long = omega arith

decimal_numeral : (n : ℕ) → n < 1000000 → is_numeral 6 (decimal n) ≡ true
unfolding AreDigits
decimal_numeral n few =
    let small : n < 2 ^ 64 = omega (arith, few) in
    let some = decimal_nonempty n small in
    let short = length-decimal-le 6 n (omega arith) (omega (arith, few)) small in
    let word = decimal n in
    let first = leads_not word (λ long. first_decimal n (one_long n small long) small) in
    and_from (nat_le 1 (length word) && nat_le (length word) 6 && list_all is_ascii_digit word)
    (not (has_leading_zero word))
    (and_from (nat_le 1 (length word) && nat_le (length word) 6) (list_all is_ascii_digit word)
    (and_from (nat_le 1 (length word)) (nat_le (length word) 6) (le-leb 1 (length word) (omega (arith, some)))
    (le-leb (length word) 6 (omega (arith, short))))
    (digits_decimal own n small))
    (ap not first)

-- ---- numbers within bounds

pub record Says (least most : ℕ) (word : List ℕ) (n : ℕ) : Type 0 where
  pub is : word ≡ decimal n
  pub low : least ≤ n
  pub high : n ≤ most

pub says : (least most : ℕ) (word : List ℕ) (n : ℕ) → number_within least most word ≡ Some n → Says least most word n
says least most word n e =
    let m = number_from 0 word in
    let numeral = some_if (is_numeral 6 word) (if nat_le least m && nat_le m most then Some m else None) n e in
    let within = some_if (nat_le least m && nat_le m most) (Some m) n numeral.1 in
    let bounds = and_parts (nat_le least m) (nat_le m most) within.0 in
    let same : m ≡ n = some_is m n within.1 in
    record {
      is = sym (written word numeral.0) ∙ ap decimal same;
      low = subst (λ k. least ≤ k) same (leb-true least m bounds.0);
      high = subst (λ k. k ≤ most) same (leb-true m most bounds.1);
    }

within_if : {a b : Bool} {n m : ℕ} → a ≡ true → b ≡ true → m ≡ n
    → (if a then (if b then Some m else None) else None) ≡ Some n
within_if {b} {m} one two same =
    ap (λ c. if c then (if b then Some m else None) else None) one ∙ ap (λ c. if c then Some m else None) two
    ∙ ap (λ k. Some k) same

pub said_within : (least most n : ℕ) → most < 1000000 → least ≤ n → n ≤ most
    → number_within least most (decimal n) ≡ Some n
said_within least most n few low high =
    let under : n < 1000000 = omega (arith, few, high) in
    let same : number_from 0 (decimal n) ≡ n = digits_value-decimal own n (omega (arith, under)) in
    within_if (decimal_numeral n under)
    (and_from (nat_le least (number_from 0 (decimal n))) (nat_le (number_from 0 (decimal n)) most)
    (le-leb least (number_from 0 (decimal n)) (omega (arith, same, low)))
    (le-leb (number_from 0 (decimal n)) most (omega (arith, same, high))))
    same
