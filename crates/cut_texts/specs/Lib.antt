-- the texts of units
pub mod UnitTexts
-- lines that are kept
pub mod Lines
-- orders listed for cut sets
pub mod OrdersOfUnits
-- what can be spelled
pub mod Spelling
-- the text of cut sets and their orders
pub mod CutsText
-- the text of `diagram`
pub mod DiagramText
