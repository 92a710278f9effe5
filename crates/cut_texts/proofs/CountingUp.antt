-- Numbers that count up where their digits stand.
use Rattle.std.proofs.Common.{◌≡◌, ℕ, ◌+◌, ◌-◌, ◌/◌, ◌%◌, ◌^◌, ◌<◌, ◌≤◌, ◌⊎◌, List, [], ◌∷◌, ◌++◌, length, take, drop}
use Rattle.std.proofs.Common.{true, false, get_or, sym, ap, subst, ◌∙◌, refl, inl, inr, arith, length-append}
use Rattle.std.proofs.Common.{append_assoc}
use Rattle.std.proofs.Common.{take-append-drop, true≢false}
use Rattle.std.specs.Prelude.{set, decimal}
use Rattle.std.proofs.lemmas.List.{set_at, get_or_push, take_at, take-set, drop_at, drop_all, drop-set, length_push}
use Rattle.std.proofs.lemmas.List.{length-drop}
use Rattle.std.proofs.lemmas.List.{length-take-le}
use Rattle.std.proofs.{lemmas.Slice.drop-put_mid, lemmas.Bool.cases_lt, lemmas.Fmt.decimal_digit}
use Rattle.std.proofs.{lemmas.Fmt.decimal_step}

-- the last digit of a number, and those before it: none, or those of the tens
record Ends (n : ℕ) : Type 0 where
  front : List ℕ
  is : decimal n ≡ front ++ (48 + n % 10) ∷ []
  tens : ((n < 10) × (front ≡ [])) ⊎ ((10 ≤ n) × (front ≡ decimal (n / 10)))

ends_small : {n : ℕ} → n < 10 → Ends n
ends_small {n} small =
    let digit : n ≡ n % 10 = omega arith in
    record {
      front = [];
      is = decimal_digit n small ∙ ap (λ d. (48 + d) ∷ []) digit;
      tens = inl (small, refl);
    }

ends_large : {n : ℕ} → 10 ≤ n → n < 2 ^ 64 → Ends n
ends_large {n} large within =
    record { front = decimal (n / 10); is = decimal_step n large within; tens = inr (large, refl) }

ends_of : {n : ℕ} → n < 2 ^ 64 → Ends n
ends_of {n} within = elim (cases_lt n 10) [
  | inl small ↦ ends_small small
  | inr large ↦ ends_large large within
]

module _ {n : ℕ} (within : n + 1 < 2 ^ 64) (e : Ends n) where
  -- the last digit is no nine
  next : n % 10 < 9 → decimal (n + 1) ≡ e.front ++ (48 + n % 10 + 1) ∷ []
  next less = elim e.tens [
    | inl small ↦
        let few : n < 10 = small.0 in
        let digit : 48 + (n + 1) ≡ 48 + n % 10 + 1 = omega arith in
        decimal_digit (n + 1) (omega (arith, few, less))
        ∙ ap (λ d. d ∷ []) digit ∙ ap (λ l. l ++ (48 + n % 10 + 1) ∷ []) (sym small.1)
    | inr large ↦
        let many : 10 ≤ n = large.0 in
        let tens : (n + 1) / 10 ≡ n / 10 = omega arith in
        let digit : 48 + (n + 1) % 10 ≡ 48 + n % 10 + 1 = omega arith in
        decimal_step (n + 1) (omega (arith, many)) within
        ∙ ap (λ t. decimal t ++ (48 + (n + 1) % 10) ∷ []) tens ∙ ap (λ d. decimal (n / 10) ++ d ∷ []) digit
        ∙ ap (λ l. l ++ (48 + n % 10 + 1) ∷ []) (sym large.1)
  ]

  -- it is a nine
  carry : 9 ≤ n % 10 → 10 ≤ n → decimal (n + 1) ≡ decimal (n / 10 + 1) ++ 48 ∷ []
  carry nine many =
      let tens : (n + 1) / 10 ≡ n / 10 + 1 = omega arith in
      let digit : 48 + (n + 1) % 10 ≡ 48 = omega arith in
      decimal_step (n + 1) (omega (arith, many)) within
      ∙ ap (λ t. decimal t ++ (48 + (n + 1) % 10) ∷ []) tens ∙ ap (λ d. decimal (n / 10 + 1) ++ d ∷ []) digit

  module _ {digits : List ℕ} (is : digits ≡ decimal n) where
    split : digits ≡ e.front ++ (48 + n % 10) ∷ []
    split = is ∙ e.is

    place : length e.front ≡ length digits - 1
    place = omega (arith, ap length split, length_push e.front (48 + n % 10))

    some : length digits - 1 < length digits
    some = omega (arith, ap length split, length_push e.front (48 + n % 10))

    last : get_or digits (length digits - 1) 0 ≡ 48 + n % 10
    last =
        ap (λ l. get_or l (length digits - 1) 0) split
        ∙ get_or_push e.front (48 + n % 10) 0 (length digits - 1) place

    more_with : get_or digits (length digits - 1) 0 < 57
        → set digits (length digits - 1) (get_or digits (length digits - 1) 0 + 1) ≡ decimal (n + 1)
    more_with less =
        let digit : get_or digits (length digits - 1) 0 + 1 ≡ 48 + n % 10 + 1 = omega (arith, last) in
        ap (set digits (length digits - 1)) digit ∙ ap (λ l. set l (length digits - 1) (48 + n % 10 + 1)) split
        ∙ set_at e.front (48 + n % 10) [] (48 + n % 10 + 1) (length digits - 1) place
        ∙ sym (next (omega (arith, last, less)))

    -- the digits before a nine, which becomes a zero
    before : take (length digits - 1) (set digits (length digits - 1) 48) ≡ e.front
    before =
        take-set digits (length digits - 1) 48 ∙ ap (take (length digits - 1)) split
        ∙ take_at e.front ((48 + n % 10) ∷ []) (length digits - 1) place

    behind : drop (length digits - 1) (set digits (length digits - 1) 48) ≡ 48 ∷ []
    behind =
        drop-set digits (length digits - 1) 48 some
        ∙ ap (λ l. 48 ∷ l) (drop_all (length digits - 1 + 1) digits (omega (arith, some)))

    carried_with : (new : List ℕ) → 57 ≤ get_or digits (length digits - 1) 0
        → ((m : ℕ) → m + 1 < 2 ^ 64
        → take (length digits - 1) (set digits (length digits - 1) 48) ≡ decimal m → new ≡ decimal (m + 1))
        → (take (length digits - 1) (set digits (length digits - 1) 48) ≡ [] → true ≡ false)
        → new ++ drop (length digits - 1) (set digits (length digits - 1) 48) ≡ decimal (n + 1)
    carried_with new nine counted none = elim e.tens [
      | inl small ↦ absurd (true≢false (none (before ∙ small.1)))
      | inr large ↦
          let many : 10 ≤ n = large.0 in
          let less : n / 10 + 1 < 2 ^ 64 = omega (arith, many, within) in
          ap (λ l. new ++ l) behind
          ∙ ap (λ l. l ++ 48 ∷ []) (counted (n / 10) less (before ∙ large.1))
          ∙ sym (carry (omega (arith, last, nine)) many)
    ]

pub more : {digits : List ℕ} (n : ℕ) → n + 1 < 2 ^ 64 → digits ≡ decimal n → get_or digits (length digits - 1) 0 < 57
    → set digits (length digits - 1) (get_or digits (length digits - 1) 0 + 1) ≡ decimal (n + 1)
more n within is less = more_with within (ends_of (omega (arith, within))) is less

pub carried : {digits : List ℕ} (new : List ℕ) (n : ℕ) → n + 1 < 2 ^ 64 → digits ≡ decimal n
    → 57 ≤ get_or digits (length digits - 1) 0
    → ((m : ℕ) → m + 1 < 2 ^ 64
    → take (length digits - 1) (set digits (length digits - 1) 48) ≡ decimal m → new ≡ decimal (m + 1))
    → (take (length digits - 1) (set digits (length digits - 1) 48) ≡ [] → true ≡ false)
    → new ++ drop (length digits - 1) (set digits (length digits - 1) 48) ≡ decimal (n + 1)
carried new n within is nine counted none =
    carried_with within (ends_of (omega (arith, within))) is new nine counted none

-- ---- the digits in the head of a line

module _ {items shown : List ℕ} (new : List ℕ) {len : ℕ} (head : ℕ) (value : shown ≡ items) (all : len ≡ length items)
    (room : 5 ≤ head)
    (inside : head ≤ length items) (same : length new ≡ head - 1 - 4) where
  -- the text with new digits
  abbrev pub part : List ℕ → List ℕ
  part l = take 4 l ++ (new ++ drop (head - 1 - 4) (drop 4 l))

  pub part_long : length (part items) ≡ length items
  part_long =
      omega (
        arith,
        length-append (take 4 items) (new ++ drop (head - 1 - 4) (drop 4 items)),
        length-append new (drop (head - 1 - 4) (drop 4 items)),
        length-drop (head - 1 - 4) (drop 4 items),
        length-drop 4 items,
        length-take-le 4 items (omega (arith, room, inside)),
        same,
        room,
        inside,
      )

  pub written : take len (part shown ++ drop (length (part shown)) items) ≡ part items
  written =
      subst (λ l. take len (part l ++ drop (length (part l)) items) ≡ part items) (sym value)
      (ap (λ l. take len (part items ++ l)) (drop_all (length (part items)) items (omega (arith, part_long)))
      ∙ take_at (part items) [] len (omega (arith, part_long, all)))

  pub behind_head : drop head (part items) ≡ drop head items
  behind_head =
      drop-put_mid 4 (head - 1 - 4) items new head (omega (arith, room)) (omega (arith, room, inside)) same

  module _ (n : ℕ) (is : take head items ≡ 99 ∷ 117 ∷ 116 ∷ 32 ∷ (decimal n ++ 58 ∷ [])) where
    whole : items ≡ 99 ∷ 117 ∷ 116 ∷ 32 ∷ ((decimal n ++ 58 ∷ []) ++ drop head items)
    whole = sym (take-append-drop head items) ∙ ap (λ l. l ++ drop head items) is

    size : length (decimal n) ≡ head - 1 - 4
    size =
        omega (arith, ap length is, length-take-le head items inside, length-append (decimal n) (58 ∷ []))

    rest : (decimal n ++ 58 ∷ []) ++ drop head items ≡ decimal n ++ 58 ∷ drop head items
    rest = append_assoc (decimal n) (58 ∷ []) (drop head items)

    pub digits_are : take (head - 1 - 4) (drop 4 shown) ≡ decimal n
    digits_are =
        ap (λ l. take (head - 1 - 4) (drop 4 l)) (value ∙ whole) ∙ ap (take (head - 1 - 4)) rest
        ∙ take_at (decimal n) (58 ∷ drop head items) (head - 1 - 4) size

    pub head_is : (m : ℕ) → new ≡ decimal m → take head (part items) ≡ 99 ∷ 117 ∷ 116 ∷ 32 ∷ (decimal m ++ 58 ∷ [])
    head_is m is_m =
        let tail : drop (head - 1 - 4) ((decimal n ++ 58 ∷ []) ++ drop head items) ≡ 58 ∷ drop head items =
        ap (drop (head - 1 - 4)) rest ∙ drop_at (decimal n) (58 ∷ drop head items) (head - 1 - 4) size in
        let now : part items ≡ 99 ∷ 117 ∷ 116 ∷ 32 ∷ (new ++ 58 ∷ drop head items) =
        ap part whole ∙ ap (λ l. 99 ∷ 117 ∷ 116 ∷ 32 ∷ (new ++ l)) tail in
        ap (take head) (now ∙ ap (λ l. 99 ∷ 117 ∷ 116 ∷ 32 ∷ l) (sym (append_assoc new (58 ∷ []) (drop head items))))
        ∙ take_at (99 ∷ 117 ∷ 116 ∷ 32 ∷ (new ++ 58 ∷ [])) (drop head items) head
        (omega (arith, same, room, length-append new (58 ∷ [])))
        ∙ ap (λ l. 99 ∷ 117 ∷ 116 ∷ 32 ∷ (l ++ 58 ∷ [])) is_m
