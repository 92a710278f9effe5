mod Listing
mod LineLemmas
mod CountingUp
pub mod Members
mod UnitTextsLemmas
pub mod OrdersOfUnitsLemmas
