use Rattle.std.proofs.Common.{◌∷◌, length}
use Rattle.residual_ledger.specs.Tight.{is_tight}
use Rattle.residual_ledger.proofs.SearchLemmas.{IsPassed}
use Rattle.wave_planner.proofs.filling.may_go.Given as goal

abbrev pub invariant-loop-place : goal.invariant-loop-place
invariant-loop-place l =
    IsPassed l.place-items l.ledger.cuts (is_tight (l.fn.unit ∷ l.ledger.out) l.margin) (length l.ledger.cuts)
    l.place-index
