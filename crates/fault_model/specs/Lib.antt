pub mod Order
pub mod TriggerTable
pub mod TreeTables
pub mod Ranking
pub mod Scratch
