-- What the margin rule promises along a history.
use Rattle.std.specs.Prelude.{◌≡◌, true, false, List, ◌∷◌, ◌++◌, [], All}
use Rattle.margin_policy.specs.{declared.request.Reply.TheVariants.Granted, Guard.KeepsMore, Guard.is_judged}
use Rattle.margin_policy.specs.{Decide.is_granted, Standing.StandingView}
use Rattle.outage_board.specs.{declared.entry.Entry.Entry, Histories.standing_after}

-- a take or a wish for a margin that was granted
abbrev pub IsJudgedGrant : Entry → Type 0
IsJudgedGrant entry = (is_judged entry.request ≡ true) × (entry.reply ≡ Granted)

-- After each of them every cut set keeps more members in service than the margin then in force. The standing after an
-- entry is what the history up to it leaves.
abbrev pub IsSafe : StandingView → List Entry → Type 0
IsSafe opening history =
    (before : List Entry) (entry : Entry) (rest : List Entry) → history ≡ before ++ entry ∷ rest → IsJudgedGrant entry
    → KeepsMore (standing_after opening (before ++ entry ∷ []))

-- no entry grants anything
abbrev pub GrantsNothing : List Entry → Type 0
GrantsNothing history = All (λ (entry : Entry). is_granted entry.reply ≡ false) history
