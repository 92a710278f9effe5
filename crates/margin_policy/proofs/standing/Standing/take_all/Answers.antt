use Rattle.std.proofs.Common.{◌≡◌, ◌<◌, ℕ, length, get_or, ap, ◌∙◌, arith}
use Rattle.std.proofs.lemmas.List.{get_or_read}
use Rattle.margin_policy.specs.Held.{Held, holder_of, with_held}
use Rattle.margin_policy.specs.Standing.{StandingView}
use Rattle.margin_policy.proofs.HeldLemmas.{still_free, with_all_held-more}
use Rattle.margin_policy.proofs.standing.Standing.take_all.Goals as goal

pub take-requires-clause-in_service : goal.take-requires-clause-in_service
take-requires-clause-in_service c =
    let units = c.args.units.now in
    let i = c.loop-unit.unit-index in
    let unit : ℕ = c.unit-item.result in
    let short : i < length units = omega arith in
    let at : unit ≡ get_or units i 0 = get_or_read units i unit short c.unit-item.is 0 in
    ap (λ (v : StandingView). holder_of v.held unit) c.loop-unit.invariant
    ∙ still_free c.args.crew units c.args.self.now.held i c.requires.once c.requires.in_service short at

pub loop-unit-preserved : goal.loop-unit-preserved
loop-unit-preserved c =
    let units = c.args.units.now in
    let i = c.loop-unit.unit-index in
    let unit : ℕ = c.unit-item.result in
    let short : i < length units = omega arith in
    let at : unit ≡ get_or units i 0 = get_or_read units i unit short c.unit-item.is 0 in
    let now : StandingView = c.args.self.now in
    c.take.ensures
    ∙ ap (λ (v : StandingView). record v { held = with_held c.args.crew unit v.held }) c.loop-unit.invariant
    ∙ ap (λ (h : Held). record now { held = h }) (with_all_held-more c.args.crew units now.held i short at)
