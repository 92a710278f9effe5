pub mod NameLemmas
pub mod HistoryLemmas
pub mod BoardLemmas
pub mod TakeLemmas
pub mod OpeningLemmas
pub mod SafetyLemmas
-- one item of a list in place of another
pub mod Replaced
pub mod TimesLemmas
pub mod StepLemmas
pub mod TableLemmas
pub mod PassLemmas
pub mod ServingLemmas
-- when a history is whole
pub mod Whole
