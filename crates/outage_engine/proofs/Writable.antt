-- The cut list of a tree and its failing orders are of units of the tree.
use Rattle.std.specs.Prelude.{◌≡◌, ℕ, List, All, Option}
use Rattle.std.proofs.{Common.sym, Common.subst, lemmas.List.Elements.All-weaker}
use Rattle.fault_definitions.specs.{Tree.FaultTree, Tree.IsUnitOf, Cut.IsCutList, Cut.IsMinimalCut}
use Rattle.cut_sequences.specs.Orders.{order_lists}
use Rattle.cut_texts.specs.{OrdersOfUnits.AreOrdersOf, UnitTexts.AreTextsOf}
use Rattle.cut_texts.proofs.OrdersOfUnitsLemmas.{AreOrdersOf-order_lists}

cuts_of_units : {tree : FaultTree} (cuts : List (List ℕ)) → IsCutList tree cuts → All (All (IsUnitOf tree)) cuts
cuts_of_units {tree} cuts list =
    All-weaker (IsMinimalCut tree) (All (IsUnitOf tree)) (λ set minimal. minimal.units) cuts list.sound

pub listed_of_units : {tree : FaultTree} (cuts : List (List ℕ)) (most : ℕ) {lists : List (Option (List (List ℕ)))}
    {texts : List (List ℕ)} → IsCutList tree cuts → lists ≡ order_lists tree cuts most → AreTextsOf tree texts
    → All (All (IsUnitOf tree)) cuts × AreOrdersOf tree cuts lists × AreTextsOf tree texts
listed_of_units {tree} cuts most list is spelled =
    let units = cuts_of_units cuts list in
    (units, subst (AreOrdersOf tree cuts) (sym is) (AreOrdersOf-order_lists tree cuts most units), spelled)
