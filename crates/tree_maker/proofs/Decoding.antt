-- Numbers by names: what each name of the made deck says, by its letter and its number.
use Rattle.std.proofs.Common.{◌≡◌, ℕ, zero, suc, ◌+◌, ◌-◌, ◌*◌, ◌/◌, ◌%◌, ◌^◌, ◌<◌, ◌≤◌, List, [], ◌∷◌, ◌++◌, map, refl}
use Rattle.std.proofs.Common.{ap, ◌∙◌, arith, lit<}
use Rattle.std.specs.{Char.digit_value, List.flat_map, List.range_with_len, Str.Parse.digits_value}
use Rattle.std.specs.Prelude.{◌==◌, codes, decimal, if◌then◌else◌}
use Rattle.std.proofs.{lemmas.Fmt.decimal_is_IsNumeral, lemmas.Int.Digits.digits_value_push, lemmas.Simd.map-map}
use Rattle.tree_maker.specs.Names.{gate_name, fdep_name, trigger_name, unit_name, units_in}
use Rattle.tree_maker.proofs.Ranges.{map-counts}

-- what the digits of a number read as, and with a unit's letter behind them
value-decimal : (n : ℕ) → n < 2 ^ 64 → digits_value 10 (decimal n) ≡ n
value-decimal n small = (decimal_is_IsNumeral n small).1

value-letter : (n letter p : ℕ) → n < 2 ^ 64 → digit_value letter ≡ p → digits_value 10 (decimal n ++ letter ∷ [])
    ≡ n * 10 + p
value-letter n letter p small is =
    digits_value_push 10 (decimal n) letter ∙ ap (λ v. v * 10 + digit_value letter) (value-decimal n small)
    ∙ ap (λ d. n * 10 + d) is

module _ (top gate fdep unit trigger : ℕ) where
  -- of a unit's name: the group and the letter
  abbrev unit_decoded : ℕ → ℕ
  unit_decoded value = unit + 3 * ((value - 10) / 10) + (value - 10) % 10

  -- the number that a name stands for, where each kind of name is numbered from its own first number on
  abbrev pub decoded : List ℕ → ℕ
  decoded [] = 0
  decoded (letter ∷ rest) =
      if letter == 117 then unit_decoded (digits_value 10 rest)
      else (if letter == 120 then trigger + digits_value 10 rest
      else (if letter == 103 then gate + digits_value 10 rest
      else (if letter == 102 then fdep + digits_value 10 rest / 5 else top)))

  pub decoded-gate : (i : ℕ) → i < 2 ^ 64 → decoded (gate_name i) ≡ gate + i
  decoded-gate i small = ap (λ n. gate + n) (value-decimal i small)

  pub decoded-trigger : (i : ℕ) → i < 2 ^ 64 → decoded (trigger_name i) ≡ trigger + i
  decoded-trigger i small = ap (λ n. trigger + n) (value-decimal i small)

  pub decoded-fdep : (q : ℕ) → 5 * q < 2 ^ 64 → decoded (fdep_name (5 * q)) ≡ fdep + q
  decoded-fdep q small = ap (λ n. fdep + n / 5) (value-decimal (5 * q) small) ∙ (omega arith)

  unit_of : (i p : ℕ) {value : ℕ} → p < 3 → value ≡ i * 10 + (10 + p) → unit_decoded value ≡ unit + 3 * i + p
  unit_of i p part is = omega arith

  pub decoded-a : (i : ℕ) → i < 2 ^ 64 → decoded (unit_name i (codes "a")) ≡ unit + 3 * i + 0
  decoded-a i small = unit_of i 0 (lit< tt) (value-letter i 97 10 small refl)

  pub decoded-b : (i : ℕ) → i < 2 ^ 64 → decoded (unit_name i (codes "b")) ≡ unit + 3 * i + 1
  decoded-b i small = unit_of i 1 (lit< tt) (value-letter i 98 11 small refl)

  pub decoded-c : (i : ℕ) → i < 2 ^ 64 → decoded (unit_name i (codes "c")) ≡ unit + 3 * i + 2
  decoded-c i small = unit_of i 2 (lit< tt) (value-letter i 99 12 small refl)

  -- ---- lists of names

  shifted : (a s n : ℕ) → map (λ i. a + i) (range_with_len s n) ≡ range_with_len (a + s) n
  shifted a s zero = refl
  shifted a s (suc n) =
      ap (λ l. (a + s) ∷ l)
      (shifted a (s + 1) n ∙ ap (λ b. range_with_len b n) (let e : a + (s + 1) ≡ a + s + 1 = omega arith in e))

  counted : (name : ℕ → List ℕ) (a s n : ℕ) → ((i : ℕ) → s ≤ i → i < s + n → decoded (name i) ≡ a + i)
      → map decoded (map name (range_with_len s n)) ≡ range_with_len (a + s) n
  counted name a s n each =
      map-map decoded name (range_with_len s n) ∙ map-counts (λ i. decoded (name i)) (λ i. a + i) s n each
      ∙ shifted a s n

  pub gates-counted : (n : ℕ) → n ≤ 2 ^ 64 → map decoded (map gate_name (range_with_len 0 n))
      ≡ range_with_len (gate + 0) n
  gates-counted n few = counted gate_name gate 0 n (λ i low high. decoded-gate i (omega arith))

  pub triggers-counted : (n : ℕ) → n ≤ 2 ^ 64 → map decoded (map trigger_name (range_with_len 0 n))
      ≡ range_with_len (trigger + 0) n
  triggers-counted n few = counted trigger_name trigger 0 n (λ i low high. decoded-trigger i (omega arith))

  pub fdeps-counted : (n : ℕ) → 5 * n ≤ 2 ^ 64 → map decoded (map (λ q. fdep_name (5 * q)) (range_with_len 0 n))
      ≡ range_with_len (fdep + 0) n
  fdeps-counted n few = counted (λ q. fdep_name (5 * q)) fdep 0 n (λ q low high. decoded-fdep q (omega arith))

  pub units-counted : (s n : ℕ) → s + n ≤ 2 ^ 64 → map decoded (flat_map units_in (range_with_len s n))
      ≡ range_with_len (unit + 3 * s) (3 * n)
  units-counted s zero few = refl
  units-counted s (suc n) few =
      let ih : map decoded (flat_map units_in (range_with_len (s + 1) n)) ≡ range_with_len (unit + 3 * (s + 1))
      (3 * n) = units-counted (s + 1) n (omega arith) in
      let a : decoded (unit_name s (codes "a")) ≡ unit + 3 * s = decoded-a s (omega arith) ∙ (omega arith) in
      let b : decoded (unit_name s (codes "b")) ≡ unit + 3 * s + 1 = decoded-b s (omega arith) in
      let c : decoded (unit_name s (codes "c")) ≡ unit + 3 * s + 1 + 1 = decoded-c s (omega arith) ∙ (omega arith) in
      let next : unit + 3 * (s + 1) ≡ unit + 3 * s + 1 + 1 + 1 = omega arith in
      let count : suc (suc (suc (3 * n))) ≡ 3 * suc n = omega arith in
      ap (λ x. x ∷ decoded (unit_name s (codes "b")) ∷ decoded (unit_name s (codes "c")) ∷ map decoded
      (flat_map units_in (range_with_len (s + 1) n))) a
      ∙ ap (λ x. (unit + 3 * s) ∷ x ∷ decoded (unit_name s (codes "c")) ∷ map decoded
      (flat_map units_in (range_with_len (s + 1) n))) b
      ∙ ap (λ x. (unit + 3 * s) ∷ (unit + 3 * s + 1) ∷ x ∷ map decoded (flat_map units_in (range_with_len (s + 1) n))) c
      ∙ ap (λ l. (unit + 3 * s) ∷ (unit + 3 * s + 1) ∷ (unit + 3 * s + 1 + 1) ∷ l)
      (ih ∙ ap (λ f. range_with_len f (3 * n)) next)
      ∙ ap (range_with_len (unit + 3 * s)) count
