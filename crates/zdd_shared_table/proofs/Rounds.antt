-- Places round the end of the table.
use Rattle.std.proofs.Common.{◌≡◌, ℕ, ◌+◌, ◌-◌, ◌<◌, ◌≤◌, arith, refl}
use Rattle.std.proofs.lemmas.Bool.{lt-ltb, le-ltb}
use mathlib.Core.Logic.{dite}
use native.Mathlib.Decide.{dec_lt}
use Rattle.zdd_shared_table.specs.Rule.{round}

pub round-here : (size place : ℕ) → place < size → round size place ≡ place
unfolding round
round-here size place inside = rw (lt-ltb place size inside) refl

pub round-over : (size place : ℕ) → size ≤ place → round size place ≡ place - size
unfolding round
round-over size place over = rw (le-ltb place size over) refl

pub round-below : (size home place : ℕ) → home < size → place < size → round size (home + place) < size
round-below size home place in_home in_place =
    dite (dec_lt (home + place) size)
    (λ yes. omega (arith, round-here size (home + place) yes))
    (λ no. let over : size ≤ home + place = omega arith in omega (arith, round-over size (home + place) over))

-- two places from one slot that come to one slot are one place
pub round-same : (size home a b : ℕ) → home < size → a < size → b < size → round size (home + a) ≡ round size (home + b)
    → a ≡ b
round-same size home a b in_home in_a in_b same =
    dite (dec_lt (home + a) size)
    (λ yes. dite (dec_lt (home + b) size)
    (λ yes'. omega (arith, round-here size (home + a) yes, round-here size (home + b) yes'))
    (λ no'. let over : size ≤ home + b = omega arith in
    omega (arith, round-here size (home + a) yes, round-over size (home + b) over)))
    (λ no. let over : size ≤ home + a = omega arith in dite (dec_lt (home + b) size)
    (λ yes'. omega (arith, round-over size (home + a) over, round-here size (home + b) yes'))
    (λ no'. let over' : size ≤ home + b = omega arith in
    omega (arith, round-over size (home + a) over, round-over size (home + b) over')))

-- each slot is some place from each slot
pub round-onto : (size home slot : ℕ) → home < size → slot < size
    → (place : ℕ) × (place < size) × (round size (home + place) ≡ slot)
round-onto size home slot in_home in_slot =
    dite (dec_lt slot home)
    (λ before. (
      slot + size - home,
      omega arith,
      let over : size ≤ home + (slot + size - home) = omega arith in
          omega (arith, round-over size (home + (slot + size - home)) over),
    ))
    (λ later. (
      slot - home,
      omega arith,
      let here : home + (slot - home) < size = omega arith in
          omega (arith, round-here size (home + (slot - home)) here),
    ))

pub round-next : (size home place : ℕ) → home < size → place + 1 < size
    → round size (round size (home + place) + 1) ≡ round size (home + (place + 1))
round-next size home place in_home more =
    dite (dec_lt (home + place) size)
    (λ yes. let here = round-here size (home + place) yes in
    dite (dec_lt (home + place + 1) size)
    (λ yes'. let in1 : round size (home + place) + 1 < size = omega arith in
    let in2 : home + (place + 1) < size = omega arith in
    omega (
      arith,
      here,
      round-here size (round size (home + place) + 1) in1,
      round-here size (home + (place + 1)) in2,
    ))
    (λ no'. let o1 : size ≤ round size (home + place) + 1 = omega arith in
    let o2 : size ≤ home + (place + 1) = omega arith in
    omega (
      arith,
      here,
      round-over size (round size (home + place) + 1) o1,
      round-over size (home + (place + 1)) o2,
    )))
    (λ no. let over : size ≤ home + place = omega arith in let back = round-over size (home + place) over in
    let in1 : round size (home + place) + 1 < size =
    omega arith in let o2 : size ≤ home + (place + 1) = omega arith in
    omega (
      arith,
      back,
      round-here size (round size (home + place) + 1) in1,
      round-over size (home + (place + 1)) o2,
    ))

-- the slot after a slot is one
pub round-step : (size slot : ℕ) → slot < size → round size (slot + 1) < size
round-step size slot inside =
    dite (dec_lt (slot + 1) size)
    (λ yes. omega (arith, round-here size (slot + 1) yes))
    (λ no. let over : size ≤ slot + 1 = omega arith in omega (arith, round-over size (slot + 1) over))
