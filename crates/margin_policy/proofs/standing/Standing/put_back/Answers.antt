use Rattle.std.proofs.Common.{◌≡◌, Option, Some, None, true, false, ap, ◌∙◌, refl, is_some, is_none, arith}
use Rattle.unit_sets.specs.{UnitList.among, declared.request.CrewNo.CrewNo}
use Rattle.margin_policy.specs.Held.{holder_of}
use Rattle.margin_policy.proofs.{HeldLaws.among-units_out, StandingLemmas.keeps-returned}
use Rattle.margin_policy.proofs.standing.Standing.put_back.Goals as goal

some_holder : (holder : Option CrewNo) → is_none holder ≡ false → is_some holder ≡ true
some_holder None h = absurd cc
some_holder (Some holder) h = refl

pub back-requires-clause-out : goal.back-requires-clause-out
back-requires-clause-out c =
    let held = c.self.inside.held.items in
    let some : is_none (holder_of held c.args.unit) ≡ false =
    ap (λ v. is_none (holder_of v.held c.args.unit)) c.self.view_is ∙ c.requires.out in
    ap (λ out. among out c.args.unit) c.self.invariant.same ∙ among-units_out held c.args.unit
    ∙ some_holder (holder_of held c.args.unit) some

pub invariant_of-self : goal.invariant_of-self
invariant_of-self c =
    let units : c.self.inside.ledger.units ≡ c.args.self.now.units = ap (λ v. v.units) c.self.view_is in
    rw (c.back.ensures, c.number.ensures.value) (keeps-returned c.args.unit (omega (arith, c.requires.known))
    c.self.invariant)
