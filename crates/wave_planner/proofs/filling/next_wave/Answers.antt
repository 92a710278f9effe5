use Rattle.std.proofs.Common.{◌∙◌, ap}
use Rattle.residual_ledger.specs.Ledger.{LedgerView}
use Rattle.wave_planner.specs.Filling.{is_free}
use Rattle.wave_planner.proofs.StepLemmas.{wave_differs, wave_known}
use Rattle.wave_planner.proofs.filling.next_wave.Goals as goal

pub put_back-requires-clause-known : goal.put_back-requires-clause-known
put_back-requires-clause-known c =
    wave_known (is_free c.args.ledger.now.cuts c.args.margin) (ap (λ (v : LedgerView). v.units) c.part.ensures.ledger)
    c.as_slice.ensures.value (c.as_slice-2.ensures.value ∙ c.in_ok-part.ensures.wave) c.requires.differ c.requires.known

pub put_back-requires-clause-differ : goal.put_back-requires-clause-differ
put_back-requires-clause-differ c =
    wave_differs (is_free c.args.ledger.now.cuts c.args.margin) c.as_slice.ensures.value
    (c.as_slice-2.ensures.value ∙ c.in_ok-part.ensures.wave) c.requires.differ
