-- Walks over bytes, and the tests of lists that end with one more byte.
use Rattle.std.proofs.Common.{◌≡◌, ℕ, ◌+◌, Bool, true, false, List, [], ◌∷◌, ◌++◌, length, cond, eqb, sym, refl, ap}
use Rattle.std.proofs.Common.{◌∙◌, arith, append_assoc, add-zero, eqb-true}
use Rattle.galileo_lexer.proofs.Bools.{and_left, and_right, and_none, or_left, or_right, or_false}
use Rattle.std.specs.Prelude.{◌==◌, ◌&&◌}
use Rattle.std.specs.List.{list_all}
use Rattle.galileo_lexer.specs.{declared.spot.Spot.Spot, Bytes.begins_with, Pieces.has_close}
use Rattle.galileo_lexer.specs.Spot.{along, step, walk}

pub walk-append : (spot : Spot) (a b : List ℕ) → walk spot (a ++ b) ≡ walk (walk spot a) b
walk-append spot [] b = refl
walk-append spot (x ∷ a) b = walk-append (step spot x) a b

step-offset : (spot : Spot) (byte : ℕ) → (step spot byte).offset ≡ spot.offset + 1
step-offset spot byte =
    elim (byte == 10) as (λ b. (cond b (let s : Spot =
    record { offset = spot.offset + 1; line = spot.line + 1; line_start = spot.offset + 1 } in s)
    (let s : Spot = record spot { offset = spot.offset + 1 } in s)).offset ≡ spot.offset + 1) [
      | true ↦ refl
      | false ↦ refl
    ]

pub walk-offset : (spot : Spot) (bytes : List ℕ) → (walk spot bytes).offset ≡ spot.offset + length bytes
walk-offset spot [] = omega arith
walk-offset spot (byte ∷ bytes) = omega (arith, walk-offset (step spot byte) bytes, step-offset spot byte)

pub list_all-push : (test : ℕ → Bool) (bytes : List ℕ) (byte : ℕ) → list_all test bytes ≡ true → test byte ≡ true →
    list_all test (bytes ++ byte ∷ []) ≡ true
list_all-push test [] byte each last = rw last refl
list_all-push test (b ∷ bytes) byte each last = grind (arith, list_all-push test bytes byte)

pub push-append : (bytes : List ℕ) (byte : ℕ) (rest : List ℕ) → (bytes ++ byte ∷ []) ++ rest ≡ bytes ++ byte ∷ rest
push-append bytes byte rest = append_assoc bytes (byte ∷ []) rest

-- whether the bytes end with a star, where the byte before them did or did not
abbrev pub ends_starred : Bool → List ℕ → Bool
ends_starred starred [] = starred
ends_starred starred (byte ∷ bytes) = ends_starred (byte == 42) bytes

-- on one line
pub walk-along : (spot : Spot) {test : ℕ → Bool} (bytes : List ℕ)
    → ((byte : ℕ) → test byte ≡ true → eqb byte 10 ≡ false) →
    list_all test bytes ≡ true → walk spot bytes ≡ along spot (spot.offset + length bytes)
walk-along spot [] one_line each = ap (along spot) (sym (add-zero spot.offset))
walk-along spot {test} (byte ∷ bytes) one_line each =
    let there : spot.offset + 1 + length bytes ≡ spot.offset + length (byte ∷ bytes) = omega arith in
    rw (one_line byte (and_left _ _ each))
    (walk-along (along spot (spot.offset + 1)) {test = test} bytes one_line (and_right (test byte) each)
    ∙ ap (along spot) there)

-- one more byte tells by itself whether it ends them with a star
pub ends_starred-push : (starred : Bool) (bytes : List ℕ) (byte : ℕ)
    → ends_starred starred (bytes ++ byte ∷ []) ≡ (byte == 42)
ends_starred-push starred [] byte = refl
ends_starred-push starred (b ∷ bytes) byte = ends_starred-push (b == 42) bytes byte

-- one more byte closes the comment where it is a slash behind a star
pub has_close-push : (starred : Bool) (bytes : List ℕ) (byte : ℕ) → has_close bytes ≡ false →
    (starred && begins_with (λ next. next == 47) bytes) ≡ false →
    (ends_starred starred bytes && byte == 47) ≡ false → has_close (bytes ++ byte ∷ []) ≡ false
has_close-push starred [] byte unclosed apart still = or_false _ (and_none (byte == 42)) refl
has_close-push starred (b ∷ []) byte unclosed apart still = or_false _ still (or_false _ (and_none (byte == 42)) refl)
has_close-push starred (b ∷ c ∷ bytes) byte unclosed apart still =
    or_false _ (or_left _ _ unclosed)
    (has_close-push (b == 42) (c ∷ bytes) byte (or_right _ unclosed) (or_left _ _ unclosed) still)

-- bytes in front of others have no close where all of them have none
pub has_close-front : (bytes more : List ℕ) → has_close (bytes ++ more) ≡ false → has_close bytes ≡ false
has_close-front [] more unclosed = refl
has_close-front (b ∷ []) more unclosed = or_false _ (and_none (b == 42)) refl
has_close-front (b ∷ c ∷ bytes) more unclosed =
    or_false _ (or_left _ _ unclosed) (has_close-front (c ∷ bytes) more (or_right _ unclosed))

-- bytes that end with a star are bytes and that star
pub star_last : (bytes : List ℕ) → ends_starred false bytes ≡ true → (front : List ℕ) × (bytes ≡ front ++ 42 ∷ [])
star_last [] ends = absurd (cc)
star_last (b ∷ []) ends = ([], ap (λ x. x ∷ []) (eqb-true b 42 ends))
star_last (b ∷ c ∷ bytes) ends = let more = star_last (c ∷ bytes) ends in (b ∷ more.0, ap (λ t. b ∷ t) more.1)
