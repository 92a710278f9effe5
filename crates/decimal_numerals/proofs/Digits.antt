-- The number that a few digits write stays small.
use Rattle.std.proofs.Common.{◌≡◌, ℕ, ◌+◌, ◌-◌, ◌*◌, ◌^◌, ◌<◌, ◌≤◌, true, List, length, get_or, arith, add-one, refl}
use Rattle.std.specs.{List.list_all, Char.is_ascii_digit}
use Rattle.std.proofs.{Math.Nat.pow-le-pow_right, Math.Nat.pow-suc, lemmas.List.Sums.AllPass-from_list_all}

digit_value : (byte : ℕ) → is_ascii_digit byte ≡ true → (48 ≤ byte) × (byte ≤ 57)
digit_value byte digit = (grind arith, grind arith)

-- a byte among digits is one
pub digit_at : (bytes : List ℕ) (i : ℕ) → list_all is_ascii_digit bytes ≡ true → i < length bytes →
    (48 ≤ get_or bytes i 0) × (get_or bytes i 0 ≤ 57)
digit_at bytes i each inside =
    digit_value (get_or bytes i 0) (AllPass-from_list_all is_ascii_digit bytes each i 0 inside)

-- in front of the ninth digit there is room for one more
pub room : (number i size : ℕ) → number < 10 ^ i → i < size → size ≤ 9 → number < 100000000
room number i size small inside few =
    let below : 10 ^ i ≤ 10 ^ 8 = pow-le-pow_right {n = 10} (omega arith) {i = i} {j = 8} (omega arith) in
    let is : 10 ^ 8 ≡ 100000000 = refl in
    omega arith

pub small_more : (number i digit : ℕ) → number < 10 ^ i → 48 ≤ digit → digit ≤ 57
    → 10 * number + (digit - 48) < 10 ^ (i + 1)
small_more number i digit small low high = rw (add-one, pow-suc) (omega arith)

-- nine digits write less than a milliard
pub milliard : (number size : ℕ) → number < 10 ^ size → size ≤ 9 → number ≤ 999999999
milliard number size small few =
    let below : 10 ^ size ≤ 10 ^ 9 = pow-le-pow_right {n = 10} (omega arith) {i = size} {j = 9} few in
    let is : 10 ^ 9 ≡ 1000000000 = refl in
    omega arith
