use Rattle.std.proofs.Common.{◌++◌}
use Rattle.residual_ledger.specs.Tight.{is_tight}
use Rattle.residual_ledger.proofs.SearchLemmas.{IsPassed}
use Rattle.residual_ledger.proofs.ledger.Ledger.first_holding.Given as goal

abbrev pub invariant-loop-place : goal.invariant-loop-place
invariant-loop-place l =
    IsPassed l.place-items l.self.cuts (is_tight (l.asked ++ l.self.out) l.most) l.before l.place-index
