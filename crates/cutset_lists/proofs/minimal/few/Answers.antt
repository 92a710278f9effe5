use Rattle.std.proofs.Common.{map, subst, sym, ◌∙◌}
use Rattle.cutset_lists.specs.{Cuts.units_of, Sets.IsMinimalFrom}
use Rattle.cutset_lists.proofs.MinimalLemmas.{IsMinimalFrom-none, keeps_out-step, keeps-step}
use Rattle.cutset_lists.proofs.minimal.few.Goals.{then-not-has_smaller_within+in_ok-push, else-not-has_smaller_within}
use Rattle.cutset_lists.proofs.minimal.few.Goals as goal

pub loop-cut-init : goal.loop-cut-init
loop-cut-init c = subst (IsMinimalFrom _) (sym c.requires.none) (IsMinimalFrom-none (map units_of c.args.cuts.now))

pub loop-cut-preserved : goal.loop-cut-preserved
loop-cut-preserved c =
    elim c.if-not-has_smaller_within.branch [
      | then-not-has_smaller_within+in_ok-push w ↦
          keeps-step units_of c.args.cuts.now c.if-not-has_smaller_within.kept
          c.loop-cut.cut-index c.loop-cut-test.true c.cut-item.is c.requires.order c.loop-cut.invariant
          (sym w.if-not-has_smaller_within.ensures) (w.kept-is ∙ w.in_ok-push.ensures.ok)
      | else-not-has_smaller_within w ↦
          keeps_out-step units_of c.args.cuts.now c.if-not-has_smaller_within.kept
          c.loop-cut.cut-index c.loop-cut-test.true c.cut-item.is c.requires.order c.loop-cut.invariant
          (sym w.if-not-has_smaller_within.ensures) w.kept-is
    ]
