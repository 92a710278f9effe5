-- Lemmas on the units that words hold.
use Rattle.std.proofs.Common.{◌≡◌, ◌≢◌, ℕ, zero, suc, ◌+◌, ◌*◌, ◌/◌, ◌%◌, ◌^◌, ◌-◌, ◌<◌, min, Bool, true, false, not}
use Rattle.std.proofs.Common.{◌&&◌, ◌||◌, ◌==◌, nat_lt, List, [], ◌∷◌, length, replicate, slice_index, slice_set}
use Rattle.std.proofs.Common.{bit_and, count_ones, if◌then◌else◌, refl, sym, ◌∙◌, ap, subst, inl, inr, arith, eq-eqb}
use Rattle.std.proofs.Common.{add_comm}
use Rattle.std.specs.Int.{bit_at, bit_not, w64}
use Rattle.std.proofs.lemmas.Bool.{cases_eq, ne_eqb, and_parts}
use Rattle.std.proofs.lemmas.Nat.{ones-le, ones_cat, mod_below, pow_pos, shr_below, div-add-mod', and_le_l}
use Rattle.std.proofs.lemmas.Nat.Bits.{bit_at_cat_low, bit_at_and, bit_at-lt, bit_at-zero, bit_at_not}
use Rattle.std.proofs.lemmas.Nat.Bits.{same_from_bits_below}
use lib.Count.{ones, ones_in}
use native.Mathlib.Nat.{lt_of_le_of_lt}
use Rattle.std.proofs.{lemmas.Bool.Decides.nat_tests, lemmas.List.Elements.All-from_recursion}
use Rattle.std.proofs.lemmas.List.{length-append, get_or-set_same, get_or-set_other}
use Rattle.unit_sets.specs.UnitList.{IsUnitSet, among, with_unit, without_unit, outside, is_within}
use Rattle.unit_sets.proofs.UnitListLemmas.{same_set}
use Rattle.unit_sets.proofs.UnitListLemmas.{among-with_unit, among-without_unit, among-from_is_within}
use Rattle.unit_sets.proofs.UnitListLemmas.{is_within-from_among}
use Rattle.unit_sets.proofs.UnitListLemmas.{IsRising-with_unit, IsRising-without_unit}
use Rattle.unit_sets.specs.Unit.{IsUnit}
use Rattle.unit_sets.specs.Words.{passing_below, has_bit, units_of, HoldsUnits}
use Rattle.unit_sets.proofs.Passing.{all_passing, among-passing_below, IsRising-passing_below, passing_below-same}
use Rattle.unit_sets.proofs.Passing.{filter-passing_below, length-passing_below-add, passing_below-none, same_by_test}

-- ---- the bits of one word

one_bit : (bit n : ℕ) → bit < 2 → length (if bit % 2 == 1 then n ∷ [] else []) ≡ count_ones bit
unfolding ones ones_in
one_bit zero n h = refl
one_bit (suc zero) n h = refl
one_bit (suc (suc bit)) n h = absurd (omega arith)

-- a number of n bits has as many ones as bits that are set
pub ones-passing_below : (n word : ℕ) → word < 2 ^ n
    → count_ones word ≡ length (passing_below (λ k. bit_at word k == 1) n)
unfolding passing_below
ones-passing_below zero word small = omega (arith, ones-le 0 word small)
ones-passing_below (suc n) word small =
    let low : ℕ = word % 2 ^ n in
    let high : ℕ = word / 2 ^ n in
    let low_small : low < 2 ^ n = mod_below word (2 ^ n) (pow_pos n) in
    let split : high * 2 ^ n + low ≡ word = div-add-mod' word (2 ^ n) in
    let one_more : suc n ≡ 1 + n = omega arith in
    let high_small : high < 2 = shr_below word 1 n (subst (λ (x : ℕ). word < 2 ^ x) one_more small) in
    let same_bits : (k : ℕ) → k < n → (bit_at low k == 1) ≡ (bit_at word k == 1) =
    λ k h. ap (λ b. b == 1) (sym (bit_at_cat_low high n low k h) ∙ ap (λ w. bit_at w k) split) in
    ap count_ones (sym split)
    ∙ ones_cat n high low low_small
    ∙ add_comm (count_ones high) (count_ones low)
    ∙ ap (λ x. x + count_ones high) (ones-passing_below n low low_small
    ∙ ap length (passing_below-same _ _ n same_bits))
    ∙ ap (λ x. length (passing_below (λ k. bit_at word k == 1) n) + x) (sym (one_bit high n high_small))
    ∙ sym (length-append (passing_below (λ k. bit_at word k == 1) n) (if high % 2 == 1 then n ∷ [] else []))

-- ---- the units that words hold

-- the word and the bit of a number are its quotient and remainder
pub has_bit-at : (words : List ℕ) (k i : ℕ) → i < 64
    → has_bit words (64 * k + i) ≡ (bit_at (slice_index words k) i == 1)
has_bit-at words k i h =
    let quotient : (64 * k + i) / 64 ≡ k = omega arith in
    let rest : (64 * k + i) % 64 ≡ i = omega arith in
    ap (λ x. bit_at (slice_index words x) ((64 * k + i) % 64) == 1) quotient
    ∙ ap (λ x. bit_at (slice_index words k) x == 1) rest

passes_below : (a b : ℕ) → a < b → nat_lt a b ≡ true
passes_below a b h = grind (arith, nat_tests)

pub among-units_of : (words : List ℕ) (unit : ℕ) → unit < 4096 → among (units_of words) unit ≡ has_bit words unit
among-units_of words unit small =
    among-passing_below (has_bit words) 4096 unit
    ∙ ap (λ b. b && has_bit words unit) (passes_below unit 4096 small)

-- the words with one of them replaced
has_bit-other_word : (words : List ℕ) {k : ℕ} (word v : ℕ) → v / 64 ≢ k
    → has_bit (slice_set words k word) v ≡ has_bit words v
has_bit-other_word words {k} word v other =
    ap (λ x. bit_at x (v % 64) == 1) (get_or-set_other words k (v / 64) word 0 other)

has_bit-same_word : (words : List ℕ) (k word v : ℕ) → v / 64 ≡ k → k < length words
    → has_bit (slice_set words k word) v ≡ (bit_at word (v % 64) == 1)
has_bit-same_word words k word v same within =
    ap (λ x. bit_at (slice_index (slice_set words k word) x) (v % 64) == 1) same
    ∙ ap (λ x. bit_at x (v % 64) == 1) (get_or-set_same words k word 0 within)

has_bit-old_word : (words : List ℕ) {k : ℕ} (v : ℕ) → v / 64 ≡ k
    → has_bit words v ≡ (bit_at (slice_index words k) (v % 64) == 1)
has_bit-old_word words v same = ap (λ x. bit_at (slice_index words x) (v % 64) == 1) same

apart : (u v : ℕ) → (u ≡ v → ⊥) → (u == v) ≡ false
apart u v h = ne_eqb u v h

and-false : (a : Bool) → (a && false) ≡ false
and-false true = refl
and-false false = refl

and-true : (a : Bool) → (a && true) ≡ a
and-true true = refl
and-true false = refl

has_bit-kept : (words : List ℕ) {unit : ℕ} (word : ℕ) {v : ℕ} → unit / 64 < length words
    → ((i : ℕ) → i < 64 → i ≢ unit % 64 → bit_at word i ≡ bit_at (slice_index words (unit / 64)) i) → v ≢ unit
    → has_bit (slice_set words (unit / 64) word) v ≡ has_bit words v
has_bit-kept words {unit} word {v} within others other =
    elim (cases_eq (v / 64) (unit / 64)) [
      | inl same ↦
          has_bit-same_word words (unit / 64) word v same within
          ∙ ap (λ x. x == 1) (others (v % 64) (mod_below v 64 (omega arith)) (λ e. other (omega arith)))
          ∙ sym (has_bit-old_word words v same)
      | inr elsewhere ↦ has_bit-other_word words word v elsewhere
    ]

-- a word whose bit of the unit is set, and whose other bits are as before
pub has_bit-set : (words : List ℕ) (unit word : ℕ) → unit / 64 < length words → bit_at word (unit % 64) ≡ 1
    → ((i : ℕ) → i < 64 → i ≢ unit % 64 → bit_at word i ≡ bit_at (slice_index words (unit / 64)) i) → (v : ℕ)
    → has_bit (slice_set words (unit / 64) word) v ≡ ((unit == v) || has_bit words v)
has_bit-set words unit word within set others v =
    elim (cases_eq v unit) [
      | inl same ↦
          subst (λ (q : ℕ). has_bit (slice_set words (unit / 64) word) q ≡ ((unit == q) || has_bit words q)) (sym same)
          (has_bit-same_word words (unit / 64) word unit refl within
          ∙ ap (λ x. x == 1) set
          ∙ ap (λ b. b || has_bit words unit) (sym (eq-eqb unit unit refl)))
      | inr other ↦
          has_bit-kept words word within others other
          ∙ ap (λ b. b || has_bit words v) (sym (apart unit v (λ e. other (sym e))))
    ]

-- a word whose bit of the unit is clear, and whose other bits are as before
pub has_bit-clear : (words : List ℕ) (unit word : ℕ) → unit / 64 < length words → bit_at word (unit % 64) ≡ 0
    → ((i : ℕ) → i < 64 → i ≢ unit % 64 → bit_at word i ≡ bit_at (slice_index words (unit / 64)) i) → (v : ℕ)
    → has_bit (slice_set words (unit / 64) word) v ≡ (has_bit words v && not (v == unit))
has_bit-clear words unit word within clear others v =
    elim (cases_eq v unit) [
      | inl same ↦
          subst (λ (q : ℕ). has_bit (slice_set words (unit / 64) word) q ≡ (has_bit words q && not (q == unit)))
          (sym same)
          (has_bit-same_word words (unit / 64) word unit refl within
          ∙ ap (λ x. x == 1) clear
          ∙ sym (and-false (has_bit words unit))
          ∙ ap (λ b. has_bit words unit && not b) (sym (eq-eqb unit unit refl)))
      | inr other ↦
          has_bit-kept words word within others other
          ∙ sym (and-true (has_bit words v))
          ∙ ap (λ b. has_bit words v && not b) (sym (apart v unit other))
    ]

inside : (l e h : Bool) → (e ≡ true → l ≡ true) → (l && (e || h)) ≡ (e || (l && h))
inside l true h k = ap (λ b. b && true) (k refl)
inside l false h k = refl

and_assoc : (a b c : Bool) → (a && (b && c)) ≡ ((a && b) && c)
and_assoc true b c = refl
and_assoc false b c = refl

below_by_test : (u v n : ℕ) → u < n → (u == v) ≡ true → nat_lt v n ≡ true
below_by_test u v n h e = grind (arith, nat_tests)

index_zeros : (n i : ℕ) → slice_index (replicate n 0) i ≡ 0
index_zeros zero i = refl
index_zeros (suc n) zero = refl
index_zeros (suc n) (suc i) = index_zeros n i

-- words without ones hold no unit
pub units_of-zeros : (n : ℕ) → units_of (replicate n 0) ≡ []
units_of-zeros n =
    passing_below-none (has_bit (replicate n 0)) 4096 (λ k h.
    ap (λ x. bit_at x (k % 64) == 1) (index_zeros n (k / 64)) ∙ ap (λ x. x == 1) (bit_at-zero (k % 64)))

true_is_not_false : true ≡ false → ⊥
true_is_not_false e = cc

unit_by_bit : {words : List ℕ} → HoldsUnits words → (k : ℕ) → k < 4096 → has_bit words k ≡ true → IsUnit k
unit_by_bit holds zero h set = absurd (true_is_not_false (sym set ∙ holds.not_zero))
unit_by_bit holds (suc k) h set = (omega arith, omega arith)

-- the members are unit numbers: the number 0 has no bit set
pub IsUnitSet-units_of : {words : List ℕ} → HoldsUnits words → IsUnitSet (units_of words)
IsUnitSet-units_of {words} holds = record {
  rising = IsRising-passing_below (has_bit words) 4096;
  units = All-from_recursion IsUnit (units_of words) (all_passing IsUnit (has_bit words) 4096 (unit_by_bit holds));
}

-- words with one bit more hold one unit more
pub units_of-with : (words words' : List ℕ) (unit : ℕ) → unit < 4096
    → ((v : ℕ) → has_bit words' v ≡ ((unit == v) || has_bit words v))
    → units_of words' ≡ with_unit unit (units_of words)
units_of-with words words' unit small bits =
    same_set (units_of words') (with_unit unit (units_of words))
    (IsRising-passing_below (has_bit words') 4096)
    (IsRising-with_unit unit (units_of words) (IsRising-passing_below (has_bit words) 4096))
    (λ v. among-passing_below (has_bit words') 4096 v
    ∙ ap (λ b. nat_lt v 4096 && b) (bits v)
    ∙ inside (nat_lt v 4096) (unit == v) (has_bit words v) (below_by_test unit v 4096 small)
    ∙ ap (λ b. (unit == v) || b) (sym (among-passing_below (has_bit words) 4096 v))
    ∙ sym (among-with_unit unit (units_of words) v))

-- a unit's bit is its membership, where the words and the number are seen through what equals them
pub member_by_bit : {items seen value : List ℕ} {number unit : ℕ} → seen ≡ items → number ≡ unit → IsUnit unit
    → units_of items ≡ value → has_bit seen number ≡ among value unit
member_by_bit {items} {number} {unit} same_words same_number is_unit is_value =
    ap (λ words. has_bit words number) same_words
    ∙ ap (λ n. has_bit items n) same_number
    ∙ sym (among-units_of items unit (omega (arith, is_unit.1)))
    ∙ ap (λ set. among set unit) is_value

-- words with one bit less hold one unit less
pub units_of-without : (words words' : List ℕ) (unit : ℕ)
    → ((v : ℕ) → has_bit words' v ≡ (has_bit words v && not (v == unit)))
    → units_of words' ≡ without_unit unit (units_of words)
units_of-without words words' unit bits =
    same_set (units_of words') (without_unit unit (units_of words))
    (IsRising-passing_below (has_bit words') 4096)
    (IsRising-without_unit unit (units_of words) (IsRising-passing_below (has_bit words) 4096))
    (λ v. among-passing_below (has_bit words') 4096 v
    ∙ ap (λ b. nat_lt v 4096 && b) (bits v)
    ∙ and_assoc (nat_lt v 4096) (has_bit words v) (not (v == unit))
    ∙ ap (λ b. b && not (v == unit)) (sym (among-passing_below (has_bit words) 4096 v))
    ∙ sym (among-without_unit unit (units_of words) v))

-- ---- words against words

least_bit : (a b : ℕ) → a < 2 → (a ≡ 1 → b ≡ 1) → min a b ≡ a
least_bit zero b small h = omega arith
least_bit (suc zero) b small h = let one : b ≡ 1 = h refl in omega arith
least_bit (suc (suc a)) b small h = absurd (omega arith)

-- a word whose ones are all ones of another
covered_word : {a : ℕ} (b : ℕ) → a < 2 ^ 64 → ((i : ℕ) → i < 64 → bit_at a i ≡ 1 → bit_at b i ≡ 1) → bit_and a b ≡ a
covered_word {a} b small each =
    same_from_bits_below 64 (bit_and a b) a (lt_of_le_of_lt (and_le_l a b) small) small
    (λ i h. bit_at_and a b i ∙ least_bit (bit_at a i) (bit_at b i) (bit_at-lt a i) (each i h))

one_in_cover : {a : ℕ} (b i : ℕ) → bit_and a b ≡ a → bit_at a i ≡ 1 → bit_at b i ≡ 1
one_in_cover {a} b i covered one =
    let both : min (bit_at a i) (bit_at b i) ≡ bit_at a i = sym (bit_at_and a b i) ∙ ap (λ x. bit_at x i) covered in
    let small : bit_at b i < 2 = bit_at-lt b i in
    omega arith

one_from_has_bit : (words : List ℕ) (unit : ℕ) → has_bit words unit ≡ true
    → bit_at (slice_index words (unit / 64)) (unit % 64) ≡ 1
one_from_has_bit words unit h = same_by_test _ 1 h

below_from_test : (a b : ℕ) → nat_lt a b ≡ true → a < b
below_from_test a b h = grind (arith, nat_tests)

-- where each word's ones are ones of the other's, each unit is in the other
pub is_within-from_words : (words others : List ℕ)
    → ((k : ℕ) → k < 64 → bit_and (slice_index words k) (slice_index others k) ≡ slice_index words k)
    → is_within (units_of others) (units_of words) ≡ true
is_within-from_words words others covered =
    is_within-from_among (units_of others) (units_of words) (λ unit h.
    let both : (nat_lt unit 4096 ≡ true) × (has_bit words unit ≡ true) =
    and_parts (nat_lt unit 4096) (has_bit words unit) (sym (among-passing_below (has_bit words) 4096 unit) ∙ h) in
    let small : unit < 4096 = below_from_test unit 4096 both.0 in
    let place : unit / 64 < 64 = omega arith in
    among-units_of others unit small
    ∙ ap (λ b. b == 1) (one_in_cover _ (unit % 64) (covered (unit / 64) place) (one_from_has_bit words unit both.1)))

-- where each unit is in the other, each word's ones are ones of the other's
pub covered-from_is_within : (words others : List ℕ) (k : ℕ) → k < 64 → slice_index words k < 2 ^ 64
    → is_within (units_of others) (units_of words) ≡ true
    → bit_and (slice_index words k) (slice_index others k) ≡ slice_index words k
covered-from_is_within words others k h small within =
    covered_word (slice_index others k) small (λ i below one.
    let unit_small : 64 * k + i < 4096 = omega arith in
    let here : among (units_of words) (64 * k + i) ≡ true =
    among-units_of words (64 * k + i) unit_small ∙ has_bit-at words k i below ∙ ap (λ b. b == 1) one in
    let there : among (units_of others) (64 * k + i) ≡ true =
    among-from_is_within (units_of others) (units_of words) (64 * k + i) within here in
    same_by_test _ 1 (sym (has_bit-at others k i below) ∙ sym (among-units_of others (64 * k + i) unit_small) ∙ there))

-- whether a number's bit is set in the words and not in the others
abbrev pub only_in : List ℕ → List ℕ → ℕ → Bool
only_in words others number = has_bit words number && not (has_bit others number)

pub length-outside : (words others : List ℕ) → length (outside (units_of others) (units_of words))
    ≡ length (passing_below (only_in words others) 4096)
length-outside words others =
    ap length (filter-passing_below (λ member. not (among (units_of others) member)) (has_bit words) 4096
    ∙ passing_below-same _ (only_in words others) 4096
    (λ unit h. ap (λ b. has_bit words unit && not b) (among-units_of others unit h)))

only_bit : (a b : ℕ) → a < 2 → b < 2 → ((a == 1) && not (b == 1)) ≡ (min a (1 - b) == 1)
only_bit zero zero h k = refl
only_bit zero (suc zero) h k = refl
only_bit (suc zero) zero h k = refl
only_bit (suc zero) (suc zero) h k = refl
only_bit zero (suc (suc b)) h k = absurd (omega arith)
only_bit (suc zero) (suc (suc b)) h k = absurd (omega arith)
only_bit (suc (suc a)) b h k = absurd (omega arith)

-- one word more counts its ones that are none of the other's
pub count_more : (words others : List ℕ) (k : ℕ) → slice_index words k < 2 ^ 64 → slice_index others k < 2 ^ 64
    → length (passing_below (only_in words others) (64 * (k + 1)))
    ≡ length (passing_below (only_in words others) (64 * k))
    + count_ones (bit_and (slice_index words k) (bit_not w64 (slice_index others k)))
count_more words others k small small' =
    let a : ℕ = slice_index words k in
    let b : ℕ = slice_index others k in
    let next : 64 * (k + 1) ≡ 64 * k + 64 = omega arith in
    let word_small : bit_and a (bit_not w64 b) < 2 ^ 64 = lt_of_le_of_lt (and_le_l a (bit_not w64 b)) small in
    let same : (i : ℕ) → i < 64 → only_in words others (64 * k + i) ≡ (bit_at (bit_and a (bit_not w64 b)) i == 1) =
    λ i h. ap (λ x. x && not (has_bit others (64 * k + i))) (has_bit-at words k i h)
    ∙ ap (λ x. (bit_at a i == 1) && not x) (has_bit-at others k i h)
    ∙ only_bit (bit_at a i) (bit_at b i) (bit_at-lt a i) (bit_at-lt b i)
    ∙ ap (λ x. min (bit_at a i) x == 1) (sym (bit_at_not w64 b i small' h))
    ∙ ap (λ x. x == 1) (sym (bit_at_and a (bit_not w64 b) i)) in
    ap (λ x. length (passing_below (only_in words others) x)) next
    ∙ length-passing_below-add (only_in words others) (64 * k) 64
    ∙ ap (λ x. length (passing_below (only_in words others) (64 * k)) + x)
    (ap length (passing_below-same _ _ 64 same) ∙ sym
    (ones-passing_below 64 (bit_and a (bit_not w64 b)) word_small))

-- ---- what a write of one bit leaves

pub HoldsUnits-with : {items seen : List ℕ} (new : List ℕ) {number unit : ℕ} → seen ≡ items → number ≡ unit
    → IsUnit unit
    → length new ≡ length seen → ((v : ℕ) → has_bit new v ≡ ((number == v) || has_bit seen v)) → HoldsUnits items
    → HoldsUnits new
HoldsUnits-with {seen} new {unit} same_words same_number is_unit same_length bits holds = record {
  all_units = same_length ∙ ap length same_words ∙ holds.all_units;
  not_zero =
      bits 0 ∙ ap (λ n. (n == 0) || has_bit seen 0) same_number
      ∙ ap (λ words. (unit == 0) || has_bit words 0) same_words ∙ ap (λ b. (unit == 0) || b) holds.not_zero
      ∙ ap (λ b. b || false) (apart unit 0 (λ e. absurd (omega (arith, is_unit.0))));
}

pub units_of-inserted : {items seen : List ℕ} (new : List ℕ) {value : List ℕ} {number unit : ℕ} → seen ≡ items
    → number ≡ unit → IsUnit unit
    → ((v : ℕ) → has_bit new v ≡ ((number == v) || has_bit seen v)) → units_of items ≡ value
    → units_of new ≡ with_unit unit value
units_of-inserted {items} {seen} new {unit} same_words same_number is_unit bits is_value =
    units_of-with items new unit (omega (arith, is_unit.1))
    (λ v. bits v ∙ ap (λ n. (n == v) || has_bit seen v) same_number
    ∙ ap (λ words. (unit == v) || has_bit words v) same_words)
    ∙ ap (with_unit unit) is_value

pub HoldsUnits-without : {items seen : List ℕ} (new : List ℕ) (number : ℕ) → seen ≡ items → length new ≡ length seen
    → ((v : ℕ) → has_bit new v ≡ (has_bit seen v && not (v == number))) → HoldsUnits items → HoldsUnits new
HoldsUnits-without new number same_words same_length bits holds = record {
  all_units = same_length ∙ ap length same_words ∙ holds.all_units;
  not_zero =
      bits 0 ∙ ap (λ words. has_bit words 0 && not (0 == number)) same_words
      ∙ ap (λ b. b && not (0 == number)) holds.not_zero;
}

pub units_of-removed : {items seen : List ℕ} (new : List ℕ) {value : List ℕ} {number unit : ℕ} → seen ≡ items
    → number ≡ unit
    → ((v : ℕ) → has_bit new v ≡ (has_bit seen v && not (v == number))) → units_of items ≡ value
    → units_of new ≡ without_unit unit value
units_of-removed {items} {seen} new {unit} same_words same_number bits is_value =
    units_of-without items new unit (λ v. bits v ∙ ap (λ n. has_bit seen v && not (v == n)) same_number
    ∙ ap (λ words. has_bit words v && not (v == unit)) same_words)
    ∙ ap (without_unit unit) is_value
