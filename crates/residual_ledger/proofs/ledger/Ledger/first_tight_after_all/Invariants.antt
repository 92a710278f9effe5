use Rattle.residual_ledger.proofs.SearchLemmas.{IsNarrowed}
use Rattle.residual_ledger.proofs.ledger.Ledger.first_tight_after_all.Given as goal

abbrev pub invariant-loop-unit : goal.invariant-loop-unit
invariant-loop-unit l = IsNarrowed l.self.cuts l.self.out l.asked l.most l.unit-index l.first
