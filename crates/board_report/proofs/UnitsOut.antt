-- The units that are out, among the numbers up to one that no unit is above.
use Rattle.std.specs.Prelude.{◌≡◌, ℕ, zero, suc, ◌+◌, ◌≤◌, Bool, false, if◌then◌else◌, [], ◌∷◌, ◌++◌}
use Rattle.std.specs.Prelude.{length, None, is_some}
use Rattle.std.proofs.Common.{◌-◌, ap, ◌∙◌, arith, append-nil}
use Rattle.std.proofs.lemmas.List.{get_or_past}
use Rattle.unit_sets.specs.Words.{passing_below}
use Rattle.residual_ledger.proofs.Passing.{passing-more}
use Rattle.margin_policy.specs.Held.{Held, units_out}
use Rattle.margin_policy.proofs.HeldLaws.{is_held}

-- nothing passes behind the last
past_last : (test : ℕ → Bool) (n k : ℕ) → ((j : ℕ) → n ≤ j → test j ≡ false)
    → passing_below test (n + k) ≡ passing_below test n
past_last test n zero none = ap (passing_below test) (omega arith)
past_last test n (suc k) none =
    let next : n + suc k ≡ suc (n + k) = omega arith in
    ap (passing_below test) next
    ∙ passing-more test (n + k)
    ∙ ap (λ b. passing_below test (n + k) ++ (if b then (n + k) ∷ [] else [])) (none (n + k) (omega arith))
    ∙ append-nil (passing_below test (n + k))
    ∙ past_last test n k none

-- the units that are out are found among the numbers up to one that no unit's is above
pub out_up_to : (held : Held) (last : ℕ) → length held ≤ last + 1
    → passing_below (is_held held) (last + 1) ≡ units_out held
out_up_to held last within =
    let all : last + 1 ≡ length held + (last + 1 - length held) = omega (arith, within) in
    ap (passing_below (is_held held)) all
    ∙ past_last (is_held held) (length held) (last + 1 - length held)
    (λ j past. ap is_some (get_or_past held j None past))
