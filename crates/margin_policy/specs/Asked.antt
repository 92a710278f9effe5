-- The units of a take, as they are asked for.
use Rattle.std.specs.Prelude.{◌≡◌, ℕ, ◌-◌, ◌≤◌, Bool, true, false, not, ◌&&◌, ◌||◌, nat_le, List, [], ◌∷◌, ◌++◌}
use Rattle.std.specs.Prelude.{length, take, drop, replicate}
use Rattle.std.proofs.Common.{ap, sym, ◌∙◌, arith, length-take-le, take-append-drop}
use Rattle.deck_limits.specs.declared.TheConstants.{MOST_TAKEN}
use Rattle.unit_sets.specs.UnitList.{among}

-- the units in the order asked, and whether some name of the take names no unit
pub record AskedView : Type 0 where
  pub units : List ℕ
  pub unknown : Bool

-- whether a unit stands twice
abbrev pub has_repeat : List ℕ → Bool
has_repeat [] = false
has_repeat (unit ∷ others) = among others unit || has_repeat others

-- whether there is no unit
abbrev pub is_none_asked : List ℕ → Bool
is_none_asked [] = true
is_none_asked (unit ∷ others) = false

-- the most units that one take may ask for
abbrev pub asked_limit : ℕ
asked_limit = MOST_TAKEN

-- whether a take may ask for these: not too many, none twice, and something at all
abbrev pub can_be_asked : List ℕ → Bool → Bool
can_be_asked units unknown = nat_le (length units) asked_limit &&
    (not (has_repeat units) && (unknown || not (is_none_asked units)))

-- how an array holds them: the places behind them are filled with the unit 1
pub record HoldsAsked (places : List ℕ) (count : ℕ) (unknown : Bool) : Type 0 where
  pub all : length places ≡ asked_limit
  pub few : count ≤ asked_limit
  pub rest : drop count places ≡ replicate (asked_limit - count) 1
  pub asked : can_be_asked (take count places) unknown ≡ true

-- the units with the places behind them
abbrev pub padded : List ℕ → List ℕ
padded units = units ++ replicate (asked_limit - length units) 1

-- what an array holds is what its units give back
pub padded-take : (places : List ℕ) (count : ℕ) (unknown : Bool) → HoldsAsked places count unknown
    → padded (take count places) ≡ places
padded-take places count unknown holds =
    let long : length (take count places) ≡ count = length-take-le count places (omega (arith, holds.all, holds.few)) in
    ap (λ n. take count places ++ replicate (asked_limit - n) 1) long
    ∙ ap (λ xs. take count places ++ xs) (sym holds.rest)
    ∙ take-append-drop count places

pub length-asked : (places : List ℕ) (count : ℕ) (unknown : Bool) → HoldsAsked places count unknown
    → length (take count places) ≡ count
length-asked places count unknown holds = length-take-le count places (omega (arith, holds.all, holds.few))
