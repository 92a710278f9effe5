use Rattle.std.proofs.Common.{◌≡◌, None, ap, sym, ◌∙◌}
use Rattle.margin_policy.specs.Held.{first_holder}
use Rattle.margin_policy.proofs.HeldLemmas.{all_in_service}
use Rattle.margin_policy.proofs.standing.Standing.decide_take.Goals as goal

pub unless_tight-requires-clause-in_service : goal.unless_tight-requires-clause-in_service
unless_tight-requires-clause-in_service c =
    let held = c.args.self.now.held in
    let none : first_holder held c.units-in-None.result.now ≡ None =
    ap (first_holder held) (c.units-in-None.ensures.value ∙ sym c.units.ensures.value) ∙ sym c.first_holder.ensures
    ∙ c.in-None.is in
    all_in_service held c.units-in-None.result.now none
