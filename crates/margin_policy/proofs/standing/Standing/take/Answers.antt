use Rattle.std.proofs.Common.{◌≡◌, ap, ◌∙◌, is_some, None, arith}
use Rattle.unit_sets.specs.UnitList.{among}
use Rattle.margin_policy.specs.Held.{holder_of}
use Rattle.margin_policy.proofs.{HeldLaws.among-units_out, StandingLemmas.keeps-taken}
use Rattle.margin_policy.proofs.standing.Standing.take.Goals as goal

pub out-requires-clause-in_service : goal.out-requires-clause-in_service
out-requires-clause-in_service c =
    let held = c.self.inside.held.items in
    let none : holder_of held c.args.unit ≡ None =
    ap (λ v. holder_of v.held c.args.unit) c.self.view_is ∙ c.requires.in_service in
    ap (λ out. among out c.args.unit) c.self.invariant.same ∙ among-units_out held c.args.unit ∙ ap is_some none

pub invariant_of-self : goal.invariant_of-self
invariant_of-self c =
    let units : c.self.inside.ledger.units ≡ c.args.self.now.units = ap (λ v. v.units) c.self.view_is in
    rw (c.out.ensures, c.number.ensures.value) (keeps-taken c.args.crew c.args.unit (omega (arith, c.requires.known))
    c.self.invariant)
