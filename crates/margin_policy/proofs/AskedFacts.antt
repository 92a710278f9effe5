-- What follows from the definitions of `specs/Asked`.
use Rattle.std.specs.Prelude.{◌≡◌, ℕ, ◌≤◌, Bool, true, not, ◌&&◌, ◌||◌, nat_le, List}
use Rattle.std.specs.Prelude.{length}
use Rattle.std.proofs.lemmas.Bool.{and_parts, leb-true}
use Rattle.margin_policy.specs.Asked.{asked_limit, can_be_asked, has_repeat, is_none_asked}

-- ---- what a take that may be asked for has

pub few_asked : (units : List ℕ) (unknown : Bool) → can_be_asked units unknown ≡ true → length units ≤ asked_limit
few_asked units unknown asked =
    leb-true (length units) asked_limit (and_parts (nat_le (length units) asked_limit)
    (not (has_repeat units) && (unknown || not (is_none_asked units))) asked).0
