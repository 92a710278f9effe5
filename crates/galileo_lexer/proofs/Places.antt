-- Lines and columns by the line feeds before a place.
use Rattle.std.specs.Prelude.{◌≡◌, ◌⊎◌, ℕ, ◌+◌, ◌==◌, Bool, true, false, List, [], ◌∷◌, ◌++◌, length, if◌then◌else◌}
use Rattle.std.proofs.Common.{refl, sym, ap, subst, ◌∙◌, inl, inr, arith}
use Rattle.galileo_lexer.specs.declared.spot.Spot.{Spot}
use Rattle.galileo_lexer.specs.Spot.{IsLastLine, along, line_feeds, origin, place_behind, step, walk}
use Rattle.galileo_lexer.proofs.Walks.{walk-append, walk-offset}

step-line : (spot : Spot) (byte : ℕ) → (step spot byte).line ≡ spot.line + (if byte == 10 then 1 else 0)
step-line spot byte =
    elim (byte == 10) as (λ b. (if b then (let s : Spot =
    record { offset = spot.offset + 1; line = spot.line + 1; line_start = spot.offset + 1 } in s)
    else along spot (spot.offset + 1)).line ≡ spot.line + (if b then 1 else 0)) [
      | true ↦ refl
      | false ↦ omega arith
    ]

walk-line : (spot : Spot) (bytes : List ℕ) → (walk spot bytes).line ≡ spot.line + line_feeds bytes
walk-line spot [] = omega arith
walk-line spot (byte ∷ bytes) =
    let ih : (walk (step spot byte) bytes).line ≡ (step spot byte).line + line_feeds bytes =
    walk-line (step spot byte) bytes in
    let one : (step spot byte).line ≡ spot.line + (if byte == 10 then 1 else 0) = step-line spot byte in
    omega (arith, ih, one)

pub line_behind : (before : List ℕ) → (place_behind before).line ≡ 1 + line_feeds before
line_behind before = walk-line origin before

abbrev feeds : Bool → ℕ
feeds b = if b then 1 else 0

-- no line feed, so the line begins where it did
step-start : (spot : Spot) (byte : ℕ) → feeds (byte == 10) ≡ 0 → (step spot byte).line_start ≡ spot.line_start
step-start spot byte =
    elim (byte == 10) as (λ b. feeds b ≡ 0 → (if b
    then (let s : Spot = record { offset = spot.offset + 1; line = spot.line + 1; line_start = spot.offset + 1 } in
    s) else along spot (spot.offset + 1)).line_start ≡ spot.line_start) [
      | true ↦ (λ h. absurd (omega (arith, h)))
      | false ↦ (λ h. refl)
    ]

walk-start : (spot : Spot) (line : List ℕ) → line_feeds line ≡ 0 → (walk spot line).line_start ≡ spot.line_start
walk-start spot [] none = refl
walk-start spot (byte ∷ bytes) none =
    walk-start (step spot byte) bytes (omega (arith, none)) ∙ step-start spot byte (omega (arith, none))

-- behind a line feed the line begins there
fresh : (lines : List ℕ) → (walk origin (lines ++ 10 ∷ [])).line_start ≡ (walk origin (lines ++ 10 ∷ [])).offset
fresh lines = subst (λ (s : Spot). s.line_start ≡ s.offset) (sym (walk-append origin lines (10 ∷ []))) refl

begins_there : (earlier : List ℕ) (begins : (earlier ≡ []) ⊎ ((lines : List ℕ) × (earlier ≡ lines ++ 10 ∷ [])))
    → (walk origin earlier).line_start ≡ (walk origin earlier).offset
begins_there earlier (inl none) = subst (λ e. (walk origin e).line_start ≡ (walk origin e).offset) (sym none) refl
begins_there earlier (inr (lines, is)) =
    subst (λ e. (walk origin e).line_start ≡ (walk origin e).offset) (sym is) (fresh lines)

pub column_behind : (before line : List ℕ) → IsLastLine before line → (place_behind before).column ≡ 1 + length line
column_behind before line last =
    let there : walk origin before ≡ walk (walk origin last.earlier) line =
    ap (walk origin) last.parts ∙ walk-append origin last.earlier line in
    let at : (walk origin before).offset ≡ (walk origin last.earlier).offset + length line =
    ap (λ (s : Spot). s.offset) there ∙ walk-offset (walk origin last.earlier) line in
    let start : (walk origin before).line_start ≡ (walk origin last.earlier).line_start =
    ap (λ (s : Spot). s.line_start) there ∙ walk-start (walk origin last.earlier) line last.unbroken in
    let begins : (walk origin last.earlier).line_start ≡ (walk origin last.earlier).offset =
    begins_there last.earlier last.begins in
    omega (arith, at, start, begins)
