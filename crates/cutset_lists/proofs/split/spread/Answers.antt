use Rattle.std.proofs.Common.{◌∙◌, arith}
use Rattle.cutset_lists.proofs.SplitLemmas.{included_if_found, Splits-including, Splits-none, Splits-rest}
use Rattle.cutset_lists.proofs.split.spread.Goals.{then-finds+in_ok-push, else-finds+in_ok-push-2}
use Rattle.cutset_lists.proofs.split.spread.Goals as goal

pub loop-i-init : goal.loop-i-init
loop-i-init c = record {
  splits = Splits-none c.args.list.now c.args.other.now c.args.including.now c.requires.rest;
  ready = c.requires.waiting;
}

pub loop-i-preserved : goal.loop-i-preserved
loop-i-preserved c = record {
  splits =
      elim c.if-finds.branch [
        | then-finds+in_ok-push w ↦
            Splits-including c.args.list.now c.args.other.now c.args.including.now c.loop-i.including c.loop-i.rest
            c.loop-i.i (omega arith) c.row-set.ensures c.loop-i.invariant.splits
            (w.including-is ∙ w.in_ok-push.ensures.ok) w.rest-is
            (included_if_found c.args.other.now c.row-set.result.now c.loop-i.waiting.count _
            c.loop-i.invariant.ready.wait.inside c.finds.ensures.found w.if-finds.true)
        | else-finds+in_ok-push-2 w ↦
            Splits-rest c.args.list.now c.args.other.now c.args.including.now c.loop-i.including c.loop-i.rest
            c.loop-i.i (omega arith) c.row-set.ensures c.loop-i.invariant.splits w.including-is
            (w.rest-is ∙ w.in_ok-push-2.ensures.ok)
      ];
  ready = c.finds.ensures.waiting;
}
