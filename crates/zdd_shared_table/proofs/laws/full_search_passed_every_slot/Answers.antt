use Rattle.std.proofs.Common.{◌≢◌, ℕ, ◌<◌, get_or, subst, arith}
use Rattle.zdd_shared_table.proofs.Rounds.{round-onto}
use Rattle.zdd_shared_table.proofs.laws.full_search_passed_every_slot.Goals as goal

pub returns : goal.returns
returns c = λ home size words v fits in_home all slot inside.
    let at = round-onto size (home v.probe.word) slot in_home inside in
    let short : at.0 < v.probe.passed = let h = at.1 in omega arith in
    subst (λ (k : ℕ). (get_or words k 0 ≢ 0) × (get_or words k 0 ≢ v.probe.word)) at.2 (fits.passed at.0 short)
