use Rattle.cutset_lists.specs.declared.waiting.TheConstants.{UNITS}
use Rattle.cutset_lists.proofs.WaitingLemmas.{none_wait}
use Rattle.cutset_lists.proofs.waiting.Waiting.new.Goals as goal

pub returns : goal.returns
returns c = λ sets. record {
  wait = none_wait UNITS c.in_ok-empty_lists.ensures;
  none_marked = c.in_ok-new.ensures;
}
