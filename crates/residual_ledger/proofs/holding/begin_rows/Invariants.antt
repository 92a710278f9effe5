use Rattle.residual_ledger.proofs.FillingLemmas.{IsBeginning}
use Rattle.residual_ledger.proofs.holding.begin_rows.Given as goal

abbrev pub invariant-loop-number : goal.invariant-loop-number
invariant-loop-number l = IsBeginning l.initial.ends l.ends l.start l.number
