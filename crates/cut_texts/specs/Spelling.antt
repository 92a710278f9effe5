-- What can be spelled by the texts of the units of a tree.
use Rattle.std.specs.Prelude.{ℕ, List, All}
use Rattle.fault_definitions.specs.Tree.{IsUnitOf}
use Rattle.cut_texts.specs.{OrdersOfUnits.AreOrdersOf, UnitTexts.AreTextsOf, declared.spelled.Listing.Listing}
use Rattle.cut_texts.specs.{declared.spelled.Spelled.Spelled}

-- units of the tree, each of which has its text
pub record CanSpell (names : Spelled) (spelled : List ℕ) : Type 0 where
  pub texts : AreTextsOf names.tree.now names.texts.now
  pub units : All (IsUnitOf names.tree.now) spelled

-- cut sets and orders of such units
pub record CanList (listing : Listing) : Type 0 where
  pub texts : AreTextsOf listing.names.tree.now listing.names.texts.now
  pub units : All (All (IsUnitOf listing.names.tree.now)) listing.cuts.now
  pub made : AreOrdersOf listing.names.tree.now listing.cuts.now listing.orders.now
