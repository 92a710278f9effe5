pub mod Unit
pub mod UnitList
pub mod CutOrder
pub mod Words
pub mod Refusal
