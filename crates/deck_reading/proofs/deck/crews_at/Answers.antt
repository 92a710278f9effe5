use Rattle.std.specs.Prelude.{Some, drop}
use Rattle.std.proofs.Common.{sym, ap, ◌∙◌, subst}
use Rattle.std.proofs.lemmas.Result.{err_from_is_err_and}
use Rattle.crew_script.specs.Crews.{crews_of}
use Rattle.deck_reading.specs.{Ends.IsCrewEnd, Deck.crews_behind, Faults.crews_said}
use Rattle.deck_reading.proofs.Parts.{crew_end}
use Rattle.deck_reading.proofs.deck.crews_at.Goals as goal

pub returns-in_err-crews_in-in-Some-clause-end : goal.returns-in_err-crews_in-in-Some-clause-end
returns-in_err-crews_in-in-Some-clause-end c =
    let p = err_from_is_err_and c.from_residual.result c.from_residual.ensures.1 in
    rw (p.1, p.2)
    (subst (λ a. IsCrewEnd (crews_said (crews_behind c.args.bytes.now a)) c.in_err-crews_in-in-Some.field-0.0)
    (sym c.in-Some.is)
    (crew_end (crews_of c.in-Some.at.line (drop c.in-Some.at.start c.args.bytes.now)) _
    c.in_err-crews_in-in-Some.ensures.end))

pub returns-in_ok-crews_in-in-Some-clause-crews : goal.returns-in_ok-crews_in-in-Some-clause-crews
returns-in_ok-crews_in-in-Some-clause-crews c =
    ap (λ a. crews_said (crews_behind c.args.bytes.now a)) c.in-Some.is
    ∙ ap (λ s. crews_said (Some s)) c.in_ok-crews_in-in-Some.ensures.crews
