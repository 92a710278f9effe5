pub mod TriggerLemmas
pub mod NameLemmas
pub mod TreeLemmas
pub mod RankingLemmas
pub mod EvalLemmas
pub mod OrderLemmas
