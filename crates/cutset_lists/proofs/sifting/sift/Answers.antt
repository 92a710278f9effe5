use Rattle.std.proofs.Common.{◌+◌, map, take, subst, sym, ◌∙◌, List, ℕ}
use Rattle.cutset_lists.specs.{Cuts.units_of, Sets.IsMinimalFrom, Waiting.AreReady}
use Rattle.cutset_lists.proofs.MinimalLemmas.{IsMinimalFrom-none, keeps_out-step, keeps-step}
use Rattle.cutset_lists.proofs.WaitingLemmas.{all_decided, kept_filled, ready_on}
use Rattle.cutset_lists.proofs.sifting.sift.Goals.{then-not-finds+in_ok-push, else-not-finds}
use Rattle.cutset_lists.proofs.sifting.sift.Goals as goal

pub loop-cut-init : goal.loop-cut-init
loop-cut-init c =
    let minimal : IsMinimalFrom (take 0 (map units_of c.args.cuts.now)) c.args.kept.now =
    subst (IsMinimalFrom _) (sym c.requires.none) (IsMinimalFrom-none (map units_of c.args.cuts.now)) in
    record {
      minimal = minimal;
      filled = kept_filled (map units_of c.args.cuts.now) 0 c.requires.filled minimal;
      ready = c.requires.waiting;
    }

pub loop-cut-preserved : goal.loop-cut-preserved
loop-cut-preserved c =
    let decided = all_decided c.loop-cut.kept c.cut-item.result.units.now c.take_up.new.self.count c.finds.result
    c.in_ok-take_up.ensures.waiting.wait.inside c.loop-cut.invariant.minimal.ordered c.in_ok-take_up.ensures.rest
    c.finds.ensures.found in
    let minimal : IsMinimalFrom (take (c.loop-cut.cut-index + 1) (map units_of c.args.cuts.now)) c.if-not-finds.kept =
    elim c.if-not-finds.branch [
      | then-not-finds+in_ok-push w ↦
          keeps-step units_of c.args.cuts.now c.if-not-finds.kept
          c.loop-cut.cut-index c.loop-cut-test.true c.cut-item.is c.requires.order c.loop-cut.invariant.minimal
          (sym decided ∙ w.if-not-finds.true) (w.kept-is ∙ w.in_ok-push.ensures.ok)
      | else-not-finds w ↦
          keeps_out-step units_of c.args.cuts.now c.if-not-finds.kept
          c.loop-cut.cut-index c.loop-cut-test.true c.cut-item.is c.requires.order c.loop-cut.invariant.minimal
          (sym decided ∙ w.if-not-finds.false) w.kept-is
    ] in
    record {
      minimal = minimal;
      filled =
          kept_filled (map units_of c.args.cuts.now) (c.loop-cut.cut-index + 1) c.requires.filled minimal;
      ready =
          elim c.if-not-finds.branch [
            | then-not-finds+in_ok-push w ↦
                ready_on c.cut-item.result.units.now c.finds.ensures.waiting (w.kept-is ∙ w.in_ok-push.ensures.ok)
            | else-not-finds w ↦
                subst (λ (l : List (List ℕ)). AreReady l c.finds.new.self) (sym w.kept-is) c.finds.ensures.waiting
          ];
    }
