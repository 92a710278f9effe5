pub mod ListLemmas
pub mod HoldingLemmas
pub mod DealLemmas
pub mod GoingLemmas
pub mod ShareLemmas
pub mod RoundLemmas
mod SizeLemmas
pub mod PermutationLemmas
