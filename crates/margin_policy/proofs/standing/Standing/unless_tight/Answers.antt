use Rattle.std.proofs.Common.{ap, sym, ◌∙◌, add-one, arith}
use Rattle.margin_policy.specs.declared.request.Reply.TheVariants.{Denied}
use Rattle.margin_policy.proofs.DecideLemmas.{granted_at, granted_at-first, few_places}
use Rattle.margin_policy.proofs.standing.Standing.unless_tight.Goals as goal

pub overflow_cast-result : goal.overflow_cast-result
overflow_cast-result c =
    let low = few_places c.args.asked.now c.args.most c.self.invariant c.first_tight_after_all.ensures c.in-Some.is in
    omega (arith, low)

pub overflow_add-result : goal.overflow_add-result
overflow_add-result c =
    let low = few_places c.args.asked.now c.args.most c.self.invariant c.first_tight_after_all.ensures c.in-Some.is in
    omega (arith, low)

pub returns-in-Some : goal.returns-in-Some
returns-in-Some c =
    ap Denied (add-one c.in-Some.place) ∙ ap granted_at (sym c.in-Some.is)
    ∙ granted_at-first c.args.asked.now c.args.most c.self.invariant (ap (λ v. v.cuts) c.self.view_is)
    (ap (λ v. v.held) c.self.view_is) c.first_tight_after_all.ensures

pub returns-in-None : goal.returns-in-None
returns-in-None c =
    ap granted_at (sym c.in-None.is)
    ∙ granted_at-first c.args.asked.now c.args.most c.self.invariant (ap (λ v. v.cuts) c.self.view_is)
    (ap (λ v. v.held) c.self.view_is) c.first_tight_after_all.ensures
