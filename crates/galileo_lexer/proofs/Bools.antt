-- Cases on a test, with what the test said.
use Rattle.std.proofs.Common.{◌≡◌, Bool, true, false, refl}
use Rattle.std.specs.Prelude.{◌&&◌, ◌||◌, not}

pub by_test : {A : Type 0} (b : Bool) → (b ≡ true → A) → (b ≡ false → A) → A
by_test true on off = on refl
by_test false on off = off refl

pub and_left : (a b : Bool) → (a && b) ≡ true → a ≡ true
and_left true b both = refl
and_left false b both = both

pub and_right : (a : Bool) {b : Bool} → (a && b) ≡ true → b ≡ true
and_right true both = both
and_right false both = absurd (cc)

pub or_left : (a b : Bool) → (a || b) ≡ false → a ≡ false
or_left true b neither = neither
or_left false b neither = refl

pub or_right : (a : Bool) {b : Bool} → (a || b) ≡ false → b ≡ false
or_right true neither = absurd (cc)
or_right false neither = neither

pub not_true : (b : Bool) → not b ≡ true → b ≡ false
not_true true is = absurd (cc)
not_true false is = refl

pub not_false : (b : Bool) → not b ≡ false → b ≡ true
not_false true is = refl
not_false false is = absurd (cc)

pub or_false : (a : Bool) {b : Bool} → a ≡ false → b ≡ false → (a || b) ≡ false
or_false true left right = left
or_false false left right = right

pub and_none : (a : Bool) → (a && false) ≡ false
and_none true = refl
and_none false = refl
