use Rattle.std.proofs.Common.{◌≡◌, ◌≤◌, true, length, refl, sym, ◌∙◌, arith}
use Rattle.std.proofs.lemmas.List.{get_or_read}
use Rattle.margin_policy.specs.Asked.{can_be_asked}
use Rattle.margin_policy.proofs.AskedFacts.{few_asked}
use Rattle.margin_policy.proofs.AskedLemmas.{filling-more, filled}
use Rattle.margin_policy.proofs.asked.AskedUnits.new.Goals as goal

pub loop-i-preserved : goal.loop-i-preserved
loop-i-preserved c =
    let units = c.args.units.now in
    let i = c.loop-i.i in
    let asked : can_be_asked units c.args.unknown ≡ true = sym c.may_be_asked.ensures ∙ c.if-not-may_be_asked.false in
    let few : length units ≤ 16 = few_asked units c.args.unknown asked in
    filling-more (omega arith) (omega arith)
    (get_or_read units i c.index-units-i.result (omega arith) c.index-units-i.is 0) c.loop-i.invariant

pub invariant_of-result : goal.invariant_of-result
invariant_of-result c =
    let units = c.args.units.now in
    let asked : can_be_asked units c.args.unknown ≡ true = sym c.may_be_asked.ensures ∙ c.if-not-may_be_asked.false in
    let few : length units ≤ 16 = few_asked units c.args.unknown asked in
    let end : c.loop-i.i ≡ length units = omega arith in
    filled refl few asked (rw end at c.loop-i.invariant)
