use Rattle.std.proofs.{Common.arith, lemmas.Result.on_ok_weaker}
use Rattle.cutset_lists.specs.Cuts.{units_of}
use Rattle.cutset_lists.proofs.{MinimalLemmas.IsMinimalFrom-emptied, WaitingLemmas.all_filled}
use Rattle.cutset_lists.proofs.minimal.minimal_of.Goals as goal

pub returns-then-is_empty : goal.returns-then-is_empty
returns-then-is_empty c =
    on_ok_weaker c.push.result (IsMinimalFrom-emptied units_of c.args.cuts.now c.push.new.self
    c.index-cuts-0.result (omega arith) c.is_empty.ensures c.if-is_empty.true c.requires.none) c.push.ensures.ok

pub sifted-requires-clause-filled : goal.sifted-requires-clause-filled
sifted-requires-clause-filled c =
    all_filled units_of c.args.cuts.now c.index-cuts-0.result (omega arith) c.requires.order
    c.is_empty.ensures c.if-is_empty.false
