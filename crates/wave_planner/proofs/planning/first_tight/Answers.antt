use Rattle.std.proofs.Common.{sym, ◌∙◌, ap, add-one, suc, ◌∷◌, Some, arith}
use Rattle.std.specs.Option.{option_map}
use Rattle.residual_ledger.specs.Tight.{is_tight}
use Rattle.residual_ledger.proofs.TightLaws.{tight-first}
use Rattle.wave_planner.proofs.FreeLemmas.{few_places}
use Rattle.wave_planner.proofs.planning.first_tight.Goals as goal

pub overflow_cast-result : goal.overflow_cast-result
overflow_cast-result c =
    let test = is_tight (c.args.unit ∷ c.args.ledger.now.out) c.args.margin in
    let low = few_places test c.cuts.ensures.whole.ordered c.first_tight_after.ensures c.in-Some.is in
    omega (arith, low)

pub overflow_add-result : goal.overflow_add-result
overflow_add-result c =
    let test = is_tight (c.args.unit ∷ c.args.ledger.now.out) c.args.margin in
    let low = few_places test c.cuts.ensures.whole.ordered c.first_tight_after.ensures c.in-Some.is in
    omega (arith, low)

pub returns-in-Some : goal.returns-in-Some
returns-in-Some c =
    ap Some (add-one c.in-Some.place) ∙ ap (option_map suc) (sym c.in-Some.is ∙ c.first_tight_after.ensures)
    ∙ sym (tight-first (c.args.unit ∷ c.args.ledger.now.out) c.args.margin c.args.ledger.now.cuts)

pub returns-in-None : goal.returns-in-None
returns-in-None c =
    ap (option_map suc) (sym c.in-None.is ∙ c.first_tight_after.ensures)
    ∙ sym (tight-first (c.args.unit ∷ c.args.ledger.now.out) c.args.margin c.args.ledger.now.cuts)
