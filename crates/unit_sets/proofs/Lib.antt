pub mod Passing
pub mod WordSets
pub mod CutOrderLemmas
pub mod Sorted
pub mod UnitListLemmas
