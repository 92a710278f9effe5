use Rattle.std.proofs.Common.{◌≡◌, ◌∙◌, ◌++◌, ◌∷◌, ◌&&◌, [], All, Bool, List, ℕ, refl, ap, sym, subst, is_some, take}
use Rattle.std.proofs.lemmas.List.{take_all, take_more}
use Rattle.unit_sets.specs.UnitList.{among}
use Rattle.fault_model.specs.Order.{AreDistinct}
use Rattle.fault_definitions.specs.{FailingOrder.is_failing, Step.step, Tree.FaultTree, Tree.IsUnitOf}
use Rattle.fault_definitions.proofs.StepLaws.{step-reads}
use Rattle.replay_semantics.specs.Replayed.{Replayed}
use Rattle.replay_semantics.proofs.HeldLemmas.{failing-none, fresh_next}
use Rattle.replay_semantics.proofs.replay.Replay.fails.Goals as goal
use Rattle.replay_semantics.proofs.replay.Replay.fails.Goals.{then-pushed, else-pushed}

pub loop-unit-init : goal.loop-unit-init
loop-unit-init c =
    let tree : c.self.inside.tree.now ≡ c.args.self.now.tree = ap (λ (v : Replayed). v.tree) c.self.view_is in
    record {
      tree = refl;
      order = c.requires.empty;
      failing =
          sym (ap (λ t. is_failing t c.args.self.now.order) (sym tree)
          ∙ failing-none c.self.invariant.0.kept c.requires.empty);
    }

pub push-pushed-requires-clause-fresh : goal.push-pushed-requires-clause-fresh
push-pushed-requires-clause-fresh c =
    ap (λ (units : List ℕ). among units c.unit-item.result) c.loop-unit.invariant.order
    ∙ fresh_next c.as_slice-unit-items.result.now c.loop-unit.unit-index
    (subst AreDistinct (sym c.as_slice-unit-items.ensures.units) c.as_slice-unit-items.ensures.distinct)
    c.loop-unit-test.true c.unit-item.is

pub returns-clause-bound : goal.returns-clause-bound
returns-clause-bound c = step-reads c.args.self.now.tree c.args.order.now c.args.self.now.tree.top

pub push-pushed-requires-clause-unit : goal.push-pushed-requires-clause-unit
push-pushed-requires-clause-unit c =
    let tree = c.args.self.now.tree in
    let units = subst (All (IsUnitOf tree)) (sym c.as_slice-unit-items.ensures.units) c.requires.units in
    subst (λ (t : FaultTree). IsUnitOf t c.unit-item.result) (sym c.loop-unit.invariant.tree)
    (subst (IsUnitOf tree) (sym c.unit-item.is) (units c.loop-unit.unit-index c.unit-item.result
    c.loop-unit-test.true))

pub loop-unit-preserved : goal.loop-unit-preserved
loop-unit-preserved c =
    let pushed = c.push-pushed.ensures in
    let replay = c.push-pushed.new.self in
    let fails = is_some (step replay.tree replay.order replay.tree.top) in
    record {
      tree = pushed.tree ∙ c.loop-unit.invariant.tree;
      order =
          pushed.order ∙ ap (λ (units : List ℕ). units ++ c.unit-item.result ∷ []) c.loop-unit.invariant.order
          ∙ ap (λ (n : ℕ). take c.loop-unit.unit-index c.as_slice-unit-items.result.now ++ n ∷ []) c.unit-item.is
          ∙ sym (take_more c.as_slice-unit-items.result.now c.loop-unit.unit-index c.unit-item.result
          c.loop-unit-test.true);
      failing = elim c.if-pushed.branch [
        | then-pushed w ↦
            w.failing-is ∙ pushed.top_failed
            ∙ ap (λ (a : Bool). a && fails) (sym (sym pushed.admissible ∙ w.if-pushed.true))
        | else-pushed w ↦
            w.failing-is ∙ w.if-pushed.false
            ∙ ap (λ (a : Bool). a && fails) (sym (sym pushed.admissible ∙ w.if-pushed.false))
      ];
    }

pub returns-clause-failing : goal.returns-clause-failing
returns-clause-failing c =
    let kept = c.loop-unit.invariant in
    let items = c.as_slice-unit-items in
    kept.failing ∙ ap (λ (t : FaultTree). is_failing t c.loop-unit.self.order) kept.tree
    ∙ ap (λ (units : List ℕ). is_failing c.args.self.now.tree units)
    (kept.order ∙ take_all c.loop-unit.unit-index items.result.now c.loop-unit-test.false ∙ items.ensures.units)
