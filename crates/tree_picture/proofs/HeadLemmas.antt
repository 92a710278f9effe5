-- Which line begins with the head of which node: a head has the digits of the node's number behind two blanks, and a
-- blank behind them.
use Rattle.std.proofs.Common.{◌≡◌, ℕ, ◌<◌, ◌^◌, Bool, true, false, List, [], ◌∷◌, ◌++◌, length}
use Rattle.std.proofs.Common.{refl, ap, ◌∙◌, arith, subst}
use Rattle.std.specs.Prelude.{◌==◌, ◌&&◌, codes, decimal, nat_eq}
use Rattle.std.specs.{Char.is_ascii_digit, Cmp.Lexicographic.pointwise, List.starts_with, Str.all_ascii_digits}
use Rattle.std.proofs.lemmas.Bool.{and_parts, eqb-true, eq-eqb}
use Rattle.std.proofs.lemmas.Fmt.{decimal_injective, decimal_nonempty, digits_decimal}
use Rattle.std.proofs.lemmas.Str.Parse.{numerals_by_value, tells_all_ascii_digits}

-- ---- digits

pub decimal_digits : (n : ℕ) → n < 2 ^ 64 → all_ascii_digits (decimal n) ≡ true
decimal_digits n small = digits_decimal
    (numerals_by_value (λ digits. all_ascii_digits digits ≡ true) tells_all_ascii_digits) n small

digit_apart : (digit other : ℕ) → is_ascii_digit digit ≡ true → is_ascii_digit other ≡ false
    → nat_eq digit other ≡ false
digit_apart digit other is no_digit = grind arith

other_apart : (other digit : ℕ) → is_ascii_digit other ≡ false → is_ascii_digit digit ≡ true
    → nat_eq other digit ≡ false
other_apart other digit no_digit is = grind arith

one_more : (same all rest : Bool) {both : Bool} → both ≡ (all && rest) → (same && both) ≡ (same && all && rest)
one_more true all rest is = is
one_more false all rest is = refl

-- the numbers are compared, and what stands behind them
starts_by_digits : (own other : List ℕ) (mark ending : ℕ) (rest more : List ℕ) → all_ascii_digits own ≡ true
    → all_ascii_digits other ≡ true → is_ascii_digit mark ≡ false → is_ascii_digit ending ≡ false
    → starts_with nat_eq (other ++ ending ∷ more) (own ++ mark ∷ rest)
    ≡ (pointwise nat_eq own other && starts_with nat_eq (ending ∷ more) (mark ∷ rest))
starts_by_digits [] [] mark ending rest more each all first last = refl
starts_by_digits [] (d ∷ other) mark ending rest more each all first last =
    let digit = and_parts (is_ascii_digit d) (all_ascii_digits other) all in
    simp (other_apart mark d first digit.0)
starts_by_digits (o ∷ own) [] mark ending rest more each all first last =
    let digit = and_parts (is_ascii_digit o) (all_ascii_digits own) each in
    simp (digit_apart o ending digit.0 last)
starts_by_digits (o ∷ own) (d ∷ other) mark ending rest more each all first last =
    let digits = and_parts (is_ascii_digit o) (all_ascii_digits own) each in
    let others = and_parts (is_ascii_digit d) (all_ascii_digits other) all in
    one_more (nat_eq o d) (pointwise nat_eq own other) (starts_with nat_eq (ending ∷ more) (mark ∷ rest))
    (starts_by_digits own other mark ending rest more digits.1 others.1 first last)

same_itself : (digits : List ℕ) → pointwise nat_eq digits digits ≡ true
same_itself [] = refl
same_itself (digit ∷ digits) =
    ap (λ b. b && pointwise nat_eq digits digits) (eq-eqb digit digit refl) ∙ same_itself digits

same_from_pointwise : (own other : List ℕ) → pointwise nat_eq own other ≡ true → own ≡ other
same_from_pointwise [] [] is = refl
same_from_pointwise [] (d ∷ other) is = absurd cc
same_from_pointwise (o ∷ own) [] is = absurd cc
same_from_pointwise (o ∷ own) (d ∷ other) is =
    let parts = and_parts (nat_eq o d) (pointwise nat_eq own other) is in
    ap (λ x. x ∷ own) (eqb-true o d parts.0) ∙ ap (λ l. d ∷ l) (same_from_pointwise own other parts.1)

same_number : (n m : ℕ) (numbers digits : Bool) → n < 2 ^ 64 → m < 2 ^ 64 → (n == m) ≡ numbers
    → pointwise nat_eq (decimal n) (decimal m) ≡ digits → digits ≡ numbers
same_number n m true true small few is says = refl
same_number n m false false small few is says = refl
same_number n m true false small few is says =
    absurd (let same : n ≡ m = eqb-true n m is in
    let itself : pointwise nat_eq (decimal n) (decimal m) ≡ true =
    subst (λ k. pointwise nat_eq (decimal n) (decimal k) ≡ true) same (same_itself (decimal n)) in cc)
same_number n m false true small few is says =
    absurd (let same : n ≡ m = decimal_injective n m small few (same_from_pointwise (decimal n) (decimal m) says) in
    let itself : (n == m) ≡ true = eq-eqb n m same in cc)

pub pointwise-decimal : (n m : ℕ) → n < 2 ^ 64 → m < 2 ^ 64 → pointwise nat_eq (decimal n) (decimal m) ≡ (n == m)
pointwise-decimal n m small few =
    same_number n m (n == m) (pointwise nat_eq (decimal n) (decimal m)) small few refl refl

-- ---- heads: two blanks, a number, a blank and a mark

-- the number that a head has, and its mark with what stands behind
pub starts_with-head : (n m mark other : ℕ) (rest more : List ℕ) → n < 2 ^ 64 → m < 2 ^ 64
    → starts_with nat_eq ((codes "  " ++ (decimal m ++ 32 ∷ other ∷ more))) (codes "  " ++ (decimal n ++ 32 ∷ mark ∷
    rest))
    ≡ ((n == m) && starts_with nat_eq (other ∷ more) (mark ∷ rest))
starts_with-head n m mark other rest more small few =
    starts_by_digits (decimal n) (decimal m) 32 32 (mark ∷ rest) (other ∷ more) (decimal_digits n small)
    (decimal_digits m few) refl refl
    ∙ ap (λ b. b && starts_with nat_eq (other ∷ more) (mark ∷ rest)) (pointwise-decimal n m small few)

no_digits : (digits : List ℕ) → 0 < length digits → pointwise nat_eq digits [] ≡ false
no_digits [] some = absurd (omega arith)
no_digits (digit ∷ digits) some = refl

-- no head begins a line in which no number stands
pub starts_with-unnumbered : (n letter : ℕ) (rest more : List ℕ) → n < 2 ^ 64 → is_ascii_digit letter ≡ false
    → starts_with nat_eq (codes "  " ++ letter ∷ more) (codes "  " ++ (decimal n ++ 32 ∷ rest)) ≡ false
starts_with-unnumbered n letter rest more small no_digit =
    starts_by_digits (decimal n) [] 32 letter rest more (decimal_digits n small) refl refl no_digit
    ∙ ap (λ b. b && starts_with nat_eq (letter ∷ more) (32 ∷ rest))
    (no_digits (decimal n) (decimal_nonempty n small))
