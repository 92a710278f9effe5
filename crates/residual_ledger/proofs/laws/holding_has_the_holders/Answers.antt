use Rattle.residual_ledger.proofs.{HoldingLemmas.IsRising-holding, LedgerLemmas.held_place, LedgerLemmas.place_held}
use Rattle.residual_ledger.proofs.laws.holding_has_the_holders.Goals as goal

pub returns : goal.returns
returns c = record {
  rising = IsRising-holding;
  inside = λ cuts unit place has. (held_place cuts unit place has).0;
  members = place_held;
}
