use Rattle.std.proofs.Common.{map, subst, List}
use Rattle.std.proofs.lemmas.Result.{on_ok_weaker}
use Rattle.cutset_lists.specs.{declared.sort.Cut.Cut, Cuts.units_of, Sets.IsMinimalFrom}
use Rattle.cutset_lists.proofs.MinimalLemmas.{IsMinimalFrom-sorted}
use Rattle.cutset_lists.proofs.minimal.minimal.Goals as goal

pub returns : goal.returns
returns c =
    on_ok_weaker c.minimal_of.result (λ is. IsMinimalFrom-sorted c.in_ok-cuts.ensures (subst (λ (l : List Cut).
    IsMinimalFrom (map units_of l) c.minimal_of.new.kept) c.as_slice.ensures.value is)) c.minimal_of.ensures
